-- The paths of a tree with the missing nodes of one more path.
use Rattle.std.proofs.Common.{◌≡◌, ℕ, suc, ◌+◌, ◌-◌, ◌≤◌, Bool, cond, List, [], ◌∷◌, ◌++◌, length, take, drop, map, refl, sym, ap, subst, ◌∙◌, arith, append_assoc, append-nil, ⊎_elim}
use Rattle.std.proofs.lemmas.List.{length-take-le, length_push, take_all, take-append-drop}
use Rattle.std.proofs.lemmas.Bool.{false≢true}
use Rattle.std.proofs.lemmas.Bool.Decides.{eqb_tells}
use Rattle.shared_forest.specs.declared.node.Node.{Node}
use Rattle.shared_forest.specs.declared.node.Slot.{Slot}
use Rattle.shared_forest.specs.Listing.{Shown, path_after, listing_after, listing_of}
use Rattle.event_trees.specs.Canon.{longer, prefixes, put_path, put_paths}
use Rattle.event_trees.specs.Build.{common, fresh, bumped}
use Rattle.event_trees.specs.Insert.{end_path, chain, raised, moved}
use Rattle.event_trees.proofs.Rises.{IsUpTo}
use Rattle.event_trees.proofs.Order.{AllAbove, by_order, put-less, put-equal, put-greater, above_trans, front_less}
use Rattle.event_trees.proofs.Growth.{EndsAt, puts, newer, bare, rest_up_to, cons_same}
use Rattle.event_trees.proofs.Built.{listing-fresh}
use Rattle.event_trees.proofs.Reach.{common-left, common-right, take-common}
use Rattle.event_trees.proofs.InsertLaid.{IsShallow}

abbrev pub node_paths : List ℕ → List Node → List (List ℕ)
node_paths before [] = []
node_paths before (n ∷ ns) = path_after before n ∷ node_paths (path_after before n) ns

pub paths-after : (before : List ℕ) (ns : List Node) (slots : List Slot) → map (λ s. s.path) (listing_after before ns slots) ≡ node_paths before ns
paths-after before [] slots = refl
paths-after before (n ∷ ns) slots = ap (λ (l : List (List ℕ)). path_after before n ∷ l) (paths-after (path_after before n) ns slots)

pub node_paths-append : (before : List ℕ) (ns ms : List Node) → node_paths before (ns ++ ms) ≡ node_paths before ns ++ node_paths (end_path before ns) ms
node_paths-append before [] ms = refl
node_paths-append before (n ∷ ns) ms = ap (λ (l : List (List ℕ)). path_after before n ∷ l) (node_paths-append (path_after before n) ns ms)

pub end_path-append : (before : List ℕ) (ns ms : List Node) → end_path before (ns ++ ms) ≡ end_path (end_path before ns) ms
end_path-append before [] ms = refl
end_path-append before (n ∷ ns) ms = end_path-append (path_after before n) ns ms

paths-raised : (before : List ℕ) (c more : ℕ) (ns rest : List Node) → node_paths before (raised c more ns ++ rest) ≡ node_paths before (ns ++ rest)
paths-raised before c more [] rest = refl
paths-raised before c more (n ∷ ns) rest = ap (λ (l : List (List ℕ)). path_after before n ∷ l) (paths-raised (path_after before n) c more ns rest)

pub end-raised : (before : List ℕ) (c more : ℕ) (ns : List Node) → end_path before (raised c more ns) ≡ end_path before ns
end-raised before c more [] = refl
end-raised before c more (n ∷ ns) = end-raised (path_after before n) c more ns

paths-bumped : (before : List ℕ) (ns rest : List Node) → node_paths before (bumped ns ++ rest) ≡ node_paths before (ns ++ rest)
paths-bumped before [] rest = refl
paths-bumped before (n ∷ []) rest = refl
paths-bumped before (n ∷ m ∷ ns) rest = ap (λ (l : List (List ℕ)). path_after before n ∷ l) (paths-bumped (path_after before n) (m ∷ ns) rest)

pub paths-moved : (before : List ℕ) (ns : List Node) → node_paths before (moved ns) ≡ node_paths before ns
paths-moved before [] = refl
paths-moved before (n ∷ ns) = ap (λ (l : List (List ℕ)). path_after before n ∷ l) (paths-moved (path_after before n) ns)

-- ---- the chain
paths-bare : (ps : List (List ℕ)) → map (λ s. s.path) (map bare ps) ≡ ps
paths-bare [] = refl
paths-bare (p ∷ ps) = ap (λ (l : List (List ℕ)). p ∷ l) (paths-bare ps)

paths-chain_fresh : (before : List ℕ) (first d : ℕ) (es : List ℕ) → node_paths before (chain first d es) ≡ node_paths before (fresh first d es)
paths-chain_fresh before first d [] = refl
paths-chain_fresh before first d (e ∷ es) =
    let path : List ℕ = take ((d + 1) - 1) before ++ e ∷ [] in
    ap (λ (l : List (List ℕ)). path ∷ l) (paths-chain_fresh path first (d + 1) es)

pub paths-chain : (q p : List ℕ) (first : ℕ) → node_paths q (chain first (common q p) (drop (common q p) p)) ≡ newer [] q p
paths-chain q p first =
    let none : List Slot = [] in
    paths-chain_fresh q first (common q p) (drop (common q p) p) ∙ (sym (paths-after q (fresh first (common q p) (drop (common q p) p)) none) ∙
    (ap (λ (l : List Shown). map (λ s. s.path) l) (listing-fresh q p first none) ∙ paths-bare (newer [] q p)))

end-chain_some : (before : List ℕ) (first d e : ℕ) (es : List ℕ) → d ≤ length before → end_path before (chain first d (e ∷ es)) ≡ take d before ++ e ∷ es
end-chain_some before first d e [] h = ap (λ (k : ℕ). take k before ++ e ∷ []) (let same : (d + 1) - 1 ≡ d = omega arith in same)
end-chain_some before first d e (x ∷ es) h =
    let same : (d + 1) - 1 ≡ d = omega arith in
    let path : List ℕ = take ((d + 1) - 1) before ++ e ∷ [] in
    let is : path ≡ take d before ++ e ∷ [] = ap (λ (k : ℕ). take k before ++ e ∷ []) same in
    let long : length (take d before ++ e ∷ []) ≡ d + 1 = omega (arith, length_push (take d before) e, length-take-le d before h) in
    let whole : take (d + 1) path ≡ take d before ++ e ∷ [] = ap (take (d + 1)) is ∙ take_all (d + 1) (take d before ++ e ∷ []) (omega (arith, long)) in
    end-chain_some path first (d + 1) x es (omega (arith, long, ap length is)) ∙ (ap (λ (l : List ℕ). l ++ x ∷ es) whole ∙ append_assoc (take d before) (e ∷ []) (x ∷ es))

-- a path that is no later than one that it begins with is that one
pub same-whole : (q p : List ℕ) → IsUpTo q p → common q p ≡ length p → q ≡ p
same-whole [] [] le all = refl
same-whole [] (b ∷ p) le all = absurd (omega (arith, all))
same-whole (a ∷ q) [] le all = absurd (false≢true (sym le))
same-whole (a ∷ q) (b ∷ p) le all =
    ⊎_elim (λ t. let at : common (a ∷ q) (b ∷ p) ≡ suc (common q p) = ap (λ (x : Bool). cond x (suc (common q p)) 0) t.0 in
    cons_same a b q p t.1 (same-whole q p (rest_up_to a b q p t.1 le) (omega (arith, at, all))))
    (λ t. let at : common (a ∷ q) (b ∷ p) ≡ 0 = ap (λ (x : Bool). cond x (suc (common q p)) 0) t.0 in absurd (omega (arith, at, all))) (eqb_tells a b)

end-chain_rest : (q p : List ℕ) (first d : ℕ) (es : List ℕ) → IsUpTo q p → d ≡ common q p → take d p ++ es ≡ p → end_path q (chain first d es) ≡ p
end-chain_rest q p first d [] le is rest =
    let whole : take d p ≡ p = sym (append-nil (take d p)) ∙ rest in
    same-whole q p le (let long : length (take d p) ≡ d = length-take-le d p (omega (arith, is, common-right q p)) in omega (arith, is, long, ap length whole))
end-chain_rest q p first d (e ∷ es) le is rest =
    end-chain_some q first d e es (omega (arith, is, common-left q p)) ∙ (ap (λ (l : List ℕ). l ++ e ∷ es) (take-common d q p (omega (arith, is))) ∙ rest)

-- it ends at the path
pub end-chain : (q p : List ℕ) (first : ℕ) → IsUpTo q p → end_path q (chain first (common q p) (drop (common q p) p)) ≡ p
end-chain q p first le = end-chain_rest q p first (common q p) (drop (common q p) p) le refl (take-append-drop (common q p) p)

-- ---- the nodes behind
paths-behind : (q p : List ℕ) (back : List Node) → IsShallow (common q p) back → node_paths p back ≡ node_paths q back
paths-behind q p [] s = refl
paths-behind q p (n ∷ ns) s =
    let front : take (n.depth - 1) q ≡ take (n.depth - 1) p = take-common (n.depth - 1) q p (omega (arith, s)) in
    ap (λ (l : List ℕ). (l ++ n.event ∷ []) ∷ node_paths (l ++ n.event ∷ []) ns) (sym front)

pub paths-in : (q p : List ℕ) (c more mid : ℕ) (ns back : List Node) → c ≡ common q p → end_path [] ns ≡ q → IsUpTo q p → IsShallow c back
    → node_paths [] ((raised c more ns ++ chain mid c (drop c p)) ++ moved back) ≡ node_paths [] ns ++ (newer [] q p ++ node_paths q back)
paths-in q p c more mid ns back is ends le s =
    let ch : List Node = chain mid c (drop c p) in
    let chain_is : ch ≡ chain mid (common q p) (drop (common q p) p) = ap (λ (k : ℕ). chain mid k (drop k p)) is in
    let at_end : end_path q ch ≡ p = ap (end_path q) chain_is ∙ end-chain q p mid le in
    let behind : node_paths (end_path q ch) (moved back) ≡ node_paths q back =
    ap (λ (l : List ℕ). node_paths l (moved back)) at_end ∙ (paths-moved p back ∙ paths-behind q p back (subst (λ (k : ℕ). IsShallow k back) is s)) in
    let middle : node_paths q (ch ++ moved back) ≡ newer [] q p ++ node_paths q back =
    node_paths-append q ch (moved back) ∙ (ap (λ (l : List (List ℕ)). l ++ node_paths (end_path q ch) (moved back)) (ap (node_paths q) chain_is
    ∙ paths-chain q p mid) ∙ ap (λ (l : List (List ℕ)). newer [] q p ++ l) behind) in
    ap (node_paths []) (append_assoc (raised c more ns) ch (moved back)) ∙ (paths-raised [] c more ns (ch ++ moved back) ∙ (node_paths-append [] ns (ch ++ moved back) ∙
    (ap (λ (l : List ℕ). node_paths [] ns ++ node_paths l (ch ++ moved back)) ends ∙ ap (λ (l : List (List ℕ)). node_paths [] ns ++ l) middle)))

-- the registration counted: the same paths
pub after-bump : (top : Node) (ms back : List Node) (slots : List Slot) → map (λ s. s.path) (listing_of (bumped (top ∷ ms) ++ moved back) slots) ≡ [] ∷ node_paths [] (ms ++ moved back)
after-bump top [] back slots = ap (λ (l : List (List ℕ)). [] ∷ l) (paths-after [] (moved back) slots)
after-bump top (m ∷ ms) back slots = ap (λ (l : List (List ℕ)). [] ∷ l) (paths-after [] (bumped (m ∷ ms) ++ moved back) slots ∙ paths-bumped [] (m ∷ ms) (moved back))

pub paths-with_path : (c more mid : ℕ) (es : List ℕ) (top : Node) (ns back : List Node) (slots : List Slot)
    → map (λ s. s.path) (listing_of (bumped (raised c more (top ∷ ns) ++ chain mid c es) ++ moved back) slots) ≡ [] ∷ node_paths []
    ((raised c more ns ++ chain mid c es) ++ moved back)
paths-with_path c more mid es top ns back slots = after-bump _ (raised c more ns ++ chain mid c es) back slots

-- ---- put among paths that are all later, a path and its prefixes come to the end of those before
put-front : (p : List ℕ) (xs back : List (List ℕ)) → AllAbove p back → put_path p (xs ++ back) ≡ put_path p xs ++ back
put-front p [] [] all = refl
put-front p [] (y ∷ ys) all = put-less p y ys all.0
put-front p (x ∷ xs) back all =
    by_order p x (λ o. put-less p x (xs ++ back) o ∙ sym (ap (λ (l : List (List ℕ)). l ++ back) (put-less p x xs o)))
    (λ o i. put-equal p x (xs ++ back) o ∙ sym (ap (λ (l : List (List ℕ)). l ++ back) (put-equal p x xs o)))
    (λ o i. put-greater p x (xs ++ back) o ∙ (ap (λ (l : List (List ℕ)). x ∷ l) (put-front p xs back all) ∙ sym (ap (λ (l : List (List ℕ)). l ++ back) (put-greater p x xs o))))

above-begun : (f es : List ℕ) (back : List (List ℕ)) → AllAbove (f ++ es) back → AllAbove f back
above-begun f [] back all = subst (λ (l : List ℕ). AllAbove l back) (append-nil f) all
above-begun f (a ∷ es) back all = above_trans f (f ++ a ∷ es) back (front_less f a es) all

puts-front : (front es : List ℕ) (xs back : List (List ℕ)) → AllAbove (front ++ es) back → put_paths (longer front es) (xs ++ back) ≡ put_paths (longer front es) xs ++ back
puts-front front [] xs back all = refl
puts-front front (e ∷ es) xs back all =
    let f : List ℕ = front ++ e ∷ [] in
    let same : front ++ e ∷ es ≡ f ++ es = sym (append_assoc front (e ∷ []) es) in
    let rest : AllAbove (f ++ es) back = subst (λ (l : List ℕ). AllAbove l back) same all in
    ap (put_paths (longer f es)) (put-front f xs back (above-begun f es back rest)) ∙ puts-front f es (put_path f xs) back rest

pub puts-in : (q p : List ℕ) (paths back : List (List ℕ)) → EndsAt paths q → IsUpTo q p → AllAbove p back → put_paths (prefixes p) (paths ++ back) ≡ paths ++ (newer [] q p ++ back)
puts-in q p paths back e le all =
    puts-front [] p paths back all ∙ (ap (λ (l : List (List ℕ)). l ++ back) (puts [] q p paths e le) ∙ append_assoc paths (newer [] q p) back)
