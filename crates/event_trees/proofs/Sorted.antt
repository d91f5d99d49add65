-- A private list rises by its paths.
use Rattle.std.proofs.Common.{◌≡◌, ℕ, ◌<◌, ◌≤◌, true, false, eqb, List, [], ◌∷◌, length, Ordering, refl, arith, ⊎_elim}
use Rattle.std.specs.List.{All, IsDistinct, list_any}
use Rattle.std.proofs.lemmas.Bool.{ne_eqb, eqb-true, or_cases}
use Rattle.std.proofs.lemmas.List.{length-map}
use Rattle.std.proofs.lemmas.List.Elements.{recursion_from_All}
use Rattle.std.proofs.lemmas.Map.Keys.{IsDistinct-cons}
use Rattle.std.proofs.lemmas.Map.Steps.{length-le_from_distinct_below}
use Rattle.std.specs.declared.cmp.Ordering.TheVariants.{Less, Equal, Greater}
use Rattle.std.specs.List.{AllByRecursion}
use Rattle.std.specs.List.Sorted.{IsStrictlySortedBy}
use Rattle.std.specs.Ordering.{ordering_then, is_gt, nat_cmp}
use Rattle.app_api.specs.declared.registration.Reg.{Reg}
use Rattle.event_trees.specs.declared.defs.EventDef.{EventDef}
use Rattle.event_trees.specs.Defs.{path}
use Rattle.event_trees.specs.Private.{path_cmp, reg_cmp, numbers_of, IsPrivate}
use Rattle.event_trees.specs.Canon.{placed}
use Rattle.event_trees.proofs.Rises.{IsUpTo, Rises}

pub then_less : (o n : Ordering) → ordering_then o n ≡ Less → is_gt o ≡ false
then_less Less n h = refl
then_less Equal n h = refl
then_less Greater n h = cc

rises-from : (defs : List EventDef) (r : Reg) (list : List Reg) → AllByRecursion (λ s. reg_cmp defs r s ≡ Less) list
    → IsStrictlySortedBy (reg_cmp defs) list → Rises (path defs r.event) (placed defs list)
unfolding IsStrictlySortedBy
rises-from defs r [] h s = tt
rises-from defs r (t ∷ list) h s =
    (then_less (path_cmp (path defs r.event) (path defs t.event)) (nat_cmp r.number t.number) h.0, rises-from defs t list s.0 s.1)

pub from_top : (p : List ℕ) → IsUpTo [] p
from_top [] = refl
from_top (e ∷ p) = refl

pub rises : (defs : List EventDef) (list : List Reg) → IsStrictlySortedBy (reg_cmp defs) list → Rises [] (placed defs list)
unfolding IsStrictlySortedBy
rises defs [] s = tt
rises defs (r ∷ list) s = (from_top (path defs r.event), rises-from defs r list s.0 s.1)

-- numbers from 1 to 255, each once, are at most 255
apart_from_0 : (list : List Reg) → AllByRecursion (λ r. (1 ≤ r.number) × (r.number ≤ 255)) list → AllByRecursion (λ n. eqb 0 n ≡ false) (numbers_of list)
apart_from_0 [] h = tt
apart_from_0 (r ∷ list) h = (ne_eqb 0 r.number (λ e. omega (arith, h.0.0)), apart_from_0 list h.1)

all_low : (list : List Reg) → AllByRecursion (λ r. (1 ≤ r.number) × (r.number ≤ 255)) list → (q : ℕ) → list_any (eqb q) (numbers_of list) ≡ true → q < 256
all_low [] h q is = cc
all_low (r ∷ list) h q is =
    ⊎_elim (λ e. omega (arith, eqb-true q r.number e, h.0.1)) (λ k. all_low list h.1 q k) (or_cases (eqb q r.number) (list_any (eqb q) (numbers_of list)) is)

with_0_low : (list : List Reg) → AllByRecursion (λ r. (1 ≤ r.number) × (r.number ≤ 255)) list → (q : ℕ) → list_any (eqb q) (0 ∷ numbers_of list) ≡ true → q < 256
with_0_low list h q is =
    ⊎_elim (λ e. omega (arith, eqb-true q 0 e)) (λ k. all_low list h q k) (or_cases (eqb q 0) (list_any (eqb q) (numbers_of list)) is)

pub few : (list : List Reg) → All (λ r. (1 ≤ r.number) × (r.number ≤ 255)) list → IsDistinct eqb (numbers_of list) → length list ≤ 255
few list numbers distinct =
    let h : AllByRecursion (λ r. (1 ≤ r.number) × (r.number ≤ 255)) list = recursion_from_All (λ (r : Reg). (1 ≤ r.number) × (r.number ≤ 255)) list numbers in
    let one : length (numbers_of list) ≡ length list = length-map list (λ (r : Reg). r.number) in
    omega (arith, length-le_from_distinct_below (0 ∷ numbers_of list) 256 (IsDistinct-cons eqb 0 (numbers_of list) (apart_from_0 list h) distinct) (with_0_low list h))

pub private-few : (defs : List EventDef) (list : List Reg) → IsPrivate defs list → length list ≤ 255
private-few defs list p = few list p.numbers p.distinct
