-- How far two paths go together, and where a path stands after one that is no later.
use Rattle.std.proofs.Common.{◌≡◌, ℕ, zero, suc, ◌+◌, ◌<◌, ◌≤◌, Bool, false, cond, eqb, List, [], ◌∷◌, ◌++◌, length, take, drop, get_or, Ordering, refl, sym, ap, ◌∙◌, arith, ⊎_elim}
use Rattle.std.specs.declared.cmp.Ordering.TheVariants.{Less, Equal, Greater}
use Rattle.std.specs.Ordering.{nat_cmp, is_gt, ordering_then}
use Rattle.std.specs.Cmp.{nat_cmp_is}
use Rattle.std.proofs.lemmas.List.{length-take-le, take-append-drop, drop_more, drop_all}
use Rattle.std.proofs.lemmas.Bool.{false≢true, eq-eqb, ne_eqb}
use Rattle.std.proofs.lemmas.Bool.Decides.{eqb_tells}
use Rattle.event_trees.specs.Private.{path_cmp}
use Rattle.event_trees.specs.Build.{common}
use Rattle.event_trees.proofs.Rises.{IsUpTo}
use Rattle.event_trees.proofs.Order.{flip_less, flip_greater, cmp-front}
use Rattle.event_trees.proofs.Growth.{first_less, rest_up_to}

pub common-right : (q p : List ℕ) → common q p ≤ length p
common-right [] p = omega arith
common-right (a ∷ q) [] = omega arith
common-right (a ∷ q) (b ∷ p) =
    ⊎_elim (λ t. let at : common (a ∷ q) (b ∷ p) ≡ suc (common q p) = ap (λ (x : Bool). cond x (suc (common q p)) 0) t.0 in omega (arith, common-right q p))
    (λ t. let at : common (a ∷ q) (b ∷ p) ≡ 0 = ap (λ (x : Bool). cond x (suc (common q p)) 0) t.0 in omega arith) (eqb_tells a b)

pub common-left : (q p : List ℕ) → common q p ≤ length q
common-left [] p = omega arith
common-left (a ∷ q) [] = omega arith
common-left (a ∷ q) (b ∷ p) =
    ⊎_elim (λ t. let at : common (a ∷ q) (b ∷ p) ≡ suc (common q p) = ap (λ (x : Bool). cond x (suc (common q p)) 0) t.0 in omega (arith, common-left q p))
    (λ t. let at : common (a ∷ q) (b ∷ p) ≡ 0 = ap (λ (x : Bool). cond x (suc (common q p)) 0) t.0 in omega arith) (eqb_tells a b)

common-front : (f q p : List ℕ) → common (f ++ q) (f ++ p) ≡ length f + common q p
common-front [] q p = omega arith
common-front (a ∷ f) q p =
    let at : common (a ∷ (f ++ q)) (a ∷ (f ++ p)) ≡ suc (common (f ++ q) (f ++ p)) = ap (λ (x : Bool). cond x (suc (common (f ++ q) (f ++ p))) 0) (eq-eqb a a refl) in
    omega (arith, at, common-front f q p)

pub take-common : (d : ℕ) (q p : List ℕ) → d ≤ common q p → take d q ≡ take d p
take-common zero q p h = refl
take-common (suc d) [] p h = absurd (omega (arith, h))
take-common (suc d) (a ∷ q) [] h = absurd (omega (arith, h))
take-common (suc d) (a ∷ q) (b ∷ p) h =
    ⊎_elim (λ t. let at : common (a ∷ q) (b ∷ p) ≡ suc (common q p) = ap (λ (x : Bool). cond x (suc (common q p)) 0) t.0 in
    ap (λ (x : ℕ). x ∷ take d q) t.1 ∙ ap (λ (l : List ℕ). b ∷ l) (take-common d q p (omega (arith, h, at))))
    (λ t. let at : common (a ∷ q) (b ∷ p) ≡ 0 = ap (λ (x : Bool). cond x (suc (common q p)) 0) t.0 in absurd (omega (arith, h, at))) (eqb_tells a b)

-- a path that goes on from a beginning of q that p has too: what p has there decides
onward_cmp : (d e : ℕ) (q p : List ℕ) → d ≤ common q p → path_cmp (take d q ++ e ∷ []) p ≡ path_cmp (e ∷ []) (drop d p)
onward_cmp d e q p h =
    ap (λ (l : List ℕ). path_cmp (l ++ e ∷ []) p) (take-common d q p h) ∙
    (ap (λ (l : List ℕ). path_cmp (take d p ++ e ∷ []) l) (sym (take-append-drop d p)) ∙ cmp-front (take d p) (e ∷ []) (drop d p))

onward_common : (d e : ℕ) (q p : List ℕ) → d ≤ common q p → common (take d q ++ e ∷ []) p ≡ d + common (e ∷ []) (drop d p)
onward_common d e q p h =
    let long : length (take d p) ≡ d = length-take-le d p (omega (arith, h, common-right q p)) in
    ap (λ (l : List ℕ). common (l ++ e ∷ []) p) (take-common d q p h) ∙
    (ap (λ (l : List ℕ). common (take d p ++ e ∷ []) l) (sym (take-append-drop d p)) ∙
    (common-front (take d p) (e ∷ []) (drop d p) ∙ ap (λ (k : ℕ). k + common (e ∷ []) (drop d p)) long))

-- a path that goes on from the whole of p is later
pub later-under : (d e : ℕ) (q p : List ℕ) → d ≤ common q p → d ≡ length p → path_cmp p (take d q ++ e ∷ []) ≡ Less
later-under d e q p h all =
    let none : drop d p ≡ [] = drop_all d p (omega (arith, all)) in
    flip_greater (take d q ++ e ∷ []) p (onward_cmp d e q p h ∙ ap (λ (l : List ℕ). path_cmp (e ∷ []) l) none)

at_next : (d e : ℕ) (q p : List ℕ) → d ≤ common q p → d < length p → path_cmp (take d q ++ e ∷ []) p ≡ ordering_then (nat_cmp e (get_or p d 0)) (path_cmp [] (drop (d + 1) p))
at_next d e q p h within = onward_cmp d e q p h ∙ ap (λ (l : List ℕ). path_cmp (e ∷ []) l) (drop_more p d 0 within)

common_next : (d e : ℕ) (q p : List ℕ) → d ≤ common q p → d < length p → common (take d q ++ e ∷ []) p ≡ d + cond (eqb e (get_or p d 0)) (suc (common [] (drop (d + 1) p))) 0
common_next d e q p h within = onward_common d e q p h ∙ ap (λ (l : List ℕ). d + common (e ∷ []) l) (drop_more p d 0 within)

-- so is one with a greater event there
pub later-greater : (d e : ℕ) (q p : List ℕ) → d ≤ common q p → d < length p → get_or p d 0 < e → path_cmp p (take d q ++ e ∷ []) ≡ Less
later-greater d e q p h within greater =
    flip_greater (take d q ++ e ∷ []) p (at_next d e q p h within ∙ ap (λ (o : Ordering). ordering_then o (path_cmp [] (drop (d + 1) p))) (sym (nat_cmp_is e (get_or p d 0) Greater greater)))

top_first : (p : List ℕ) → is_gt (path_cmp [] p) ≡ false
top_first [] = refl
top_first (a ∷ p) = refl

pub record Next (q p : List ℕ) (depth : ℕ) : Type 0 where
  pub up_to : IsUpTo q p
  pub shared : depth ≡ common q p

-- with the same event there, it goes on with p
pub on-path : (d e : ℕ) (q p : List ℕ) → d ≤ common q p → d < length p → e ≡ get_or p d 0 → Next (take d q ++ e ∷ []) p (d + 1)
on-path d e q p h within same = record {
  up_to = ap is_gt (at_next d e q p h within ∙ ap (λ (o : Ordering). ordering_then o (path_cmp [] (drop (d + 1) p))) (sym (nat_cmp_is e (get_or p d 0) Equal same))) ∙ top_first (drop (d + 1) p);
  shared = omega (arith, common_next d e q p h within, ap (λ (b : Bool). cond b (suc (common [] (drop (d + 1) p))) 0) (eq-eqb e (get_or p d 0) same));
}

-- with a lesser one it leaves p
pub off-path : (d e : ℕ) (q p : List ℕ) → d ≤ common q p → d < length p → e < get_or p d 0 → Next (take d q ++ e ∷ []) p d
off-path d e q p h within less = record {
  up_to = ap is_gt (at_next d e q p h within ∙ ap (λ (o : Ordering). ordering_then o (path_cmp [] (drop (d + 1) p))) (sym (nat_cmp_is e (get_or p d 0) Less less)));
  shared = omega (arith, common_next d e q p h within, ap (λ (b : Bool). cond b (suc (common [] (drop (d + 1) p))) 0) (ne_eqb e (get_or p d 0) (λ i. omega (arith, less, i))));
}

-- where q has left p before, it stays so
pub past-path : (d e : ℕ) (q p : List ℕ) → IsUpTo q p → common q p < d → d ≤ length q → Next (take d q ++ e ∷ []) p (common q p)
past-path zero e q p le past within = absurd (omega (arith, past))
past-path (suc d) e [] p le past within = absurd (omega (arith, within))
past-path (suc d) e (a ∷ q) [] le past within = absurd (false≢true (sym le))
past-path (suc d) e (a ∷ q) (b ∷ p) le past within =
    ⊎_elim (λ t.
    let at : common (a ∷ q) (b ∷ p) ≡ suc (common q p) = ap (λ (x : Bool). cond x (suc (common q p)) 0) t.0 in
    let rest : Next (take d q ++ e ∷ []) p (common q p) = past-path d e q p (rest_up_to a b q p t.1 le) (omega (arith, past, at)) (omega (arith, within)) in
    let tied : nat_cmp a b ≡ Equal = sym (nat_cmp_is a b Equal t.1) in
    record {
      up_to = ap (λ (o : Ordering). is_gt (ordering_then o (path_cmp (take d q ++ e ∷ []) p))) tied ∙ rest.up_to;
      shared = omega (arith, at, rest.shared, ap (λ (x : Bool). cond x (suc (common (take d q ++ e ∷ []) p)) 0) t.0);
    })
    (λ t.
    let less : nat_cmp a b ≡ Less = first_less a b q p t.1 le in
    record {
      up_to = ap (λ (o : Ordering). is_gt (ordering_then o (path_cmp (take d q ++ e ∷ []) p))) less;
      shared = ap (λ (x : Bool). cond x (suc (common q p)) 0) t.0 ∙ sym (ap (λ (x : Bool). cond x (suc (common (take d q ++ e ∷ []) p)) 0) t.0);
    }) (eqb_tells a b)

-- a later path goes on from a beginning that the two have in common
pub later-shallow : (d e : ℕ) (q p : List ℕ) → IsUpTo q p → path_cmp p (take d q ++ e ∷ []) ≡ Less → d ≤ length q → d ≤ common q p
later-shallow zero e q p le later within = omega arith
later-shallow (suc d) e [] p le later within = absurd (omega (arith, within))
later-shallow (suc d) e (a ∷ q) [] le later within = absurd (false≢true (sym le))
later-shallow (suc d) e (a ∷ q) (b ∷ p) le later within =
    ⊎_elim (λ t.
    let at : common (a ∷ q) (b ∷ p) ≡ suc (common q p) = ap (λ (x : Bool). cond x (suc (common q p)) 0) t.0 in
    let tied : nat_cmp b a ≡ Equal = sym (nat_cmp_is b a Equal (sym t.1)) in
    let on : path_cmp p (take d q ++ e ∷ []) ≡ Less = sym (ap (λ (o : Ordering). ordering_then o (path_cmp p (take d q ++ e ∷ []))) tied) ∙ later in
    omega (arith, at, later-shallow d e q p (rest_up_to a b q p t.1 le) on (omega (arith, within))))
    (λ t.
    let less : nat_cmp a b ≡ Less = first_less a b q p t.1 le in
    let up : path_cmp (a ∷ (take d q ++ e ∷ [])) (b ∷ p) ≡ Less = ap (λ (o : Ordering). ordering_then o (path_cmp (take d q ++ e ∷ []) p)) less in
    let down : path_cmp (a ∷ (take d q ++ e ∷ [])) (b ∷ p) ≡ Greater = flip_less (b ∷ p) (a ∷ (take d q ++ e ∷ [])) later in
    cc) (eqb_tells a b)
