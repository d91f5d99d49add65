-- Steps on lists of nodes.
use Rattle.std.proofs.Common.{◌≡◌, ℕ, suc, ◌+◌, ◌-◌, ◌<◌, ◌≤◌, List, [], ◌∷◌, length, drop, get_or, set, refl, ap, ◌∙◌, arith, ⊎_elim}
use Rattle.std.proofs.lemmas.List.{drop_all}
use Rattle.std.proofs.lemmas.Bool.{cases_lt}
use Rattle.shared_forest.specs.declared.node.Node.{Node}
use Rattle.event_trees.specs.Build.{common, bumped}
use Rattle.event_trees.specs.Remove.{uncounted}

pub bumped-set : (ns : List Node) (d : Node) → 0 < length ns → set ns (length ns - 1) (record (get_or ns (length ns - 1) d) { count = (get_or ns (length ns - 1) d).count + 1 }) ≡ bumped ns
bumped-set [] d h = absurd (omega arith)
bumped-set (n ∷ []) d h = refl
bumped-set (n ∷ m ∷ ns) d h =
    let at : length (n ∷ m ∷ ns) - 1 ≡ suc (length (m ∷ ns) - 1) = omega arith in
    ap (λ (k : ℕ). set (n ∷ m ∷ ns) k (record (get_or (n ∷ m ∷ ns) k d) { count = (get_or (n ∷ m ∷ ns) k d).count + 1 })) at ∙ ap (λ (l : List Node). n ∷ l) (bumped-set (m ∷ ns) d (omega arith))

common-none_right : (q : List ℕ) → common q [] ≡ 0
common-none_right [] = refl
common-none_right (a ∷ q) = refl

-- where one of the two ends
pub common-end : (q p : List ℕ) (i : ℕ) → i ≤ length q → i ≤ length p → ((i < length q) → length p ≤ i) → common (drop i q) (drop i p) ≡ 0
common-end q p i hq hp h =
    ⊎_elim (λ l. ap (λ (x : List ℕ). common (drop i q) x) (drop_all i p (h l)) ∙ common-none_right (drop i q))
    (λ g. ap (λ (x : List ℕ). common x (drop i p)) (drop_all i q g)) (cases_lt i (length q))

pub uncounted-set : (ns : List Node) (d : Node) → 0 < length ns → set ns (length ns - 1) (record (get_or ns (length ns - 1) d) { count = (get_or ns (length ns - 1) d).count - 1 }) ≡ uncounted ns
uncounted-set [] d h = absurd (omega arith)
uncounted-set (n ∷ []) d h = refl
uncounted-set (n ∷ m ∷ ns) d h =
    let at : length (n ∷ m ∷ ns) - 1 ≡ suc (length (m ∷ ns) - 1) = omega arith in
    ap (λ (k : ℕ). set (n ∷ m ∷ ns) k (record (get_or (n ∷ m ∷ ns) k d) { count = (get_or (n ∷ m ∷ ns) k d).count - 1 })) at ∙ ap (λ (l : List Node). n ∷ l) (uncounted-set (m ∷ ns) d (omega arith))
