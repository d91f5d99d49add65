-- The tree of an edited list.
use Rattle.std.proofs.Common.{◌≡◌, ℕ, zero, suc, ◌+◌, ◌<◌, ◌≤◌, Bool, true, false, cond, List, [], ◌∷◌, length, get_or, Result, Ok, Err, refl, sym, ap, subst, ◌∙◌, arith}
use Rattle.std.specs.Prelude.{IsTrue, IfOk, ◌==◌, ◌||◌, eqb, map}
use Rattle.std.specs.List.{IsDistinct, list_any}
use Rattle.std.proofs.lemmas.Bool.{eq-eqb}
use Rattle.std.proofs.lemmas.List.{length-map}
use Rattle.std.proofs.lemmas.List.Elements.{recursion_from_All}
use Rattle.std.specs.List.Sorted.{IsStrictlySortedBy}
use Rattle.std.specs.Ordering.{is_lt}
use Rattle.app_api.specs.declared.registration.Reg.{Reg}
use Rattle.shared_forest.specs.Listing.{Shown}
use Rattle.event_trees.specs.declared.defs.EventDef.{EventDef}
use Rattle.event_trees.specs.Defs.{is_event, AreDefs}
use Rattle.event_trees.specs.Private.{IsPrivate, numbers_of, edited}
use Rattle.event_trees.specs.Canon.{Placed, placed_of, placed, canon_of}
use Rattle.event_trees.specs.ReadOff.{read_off, AreShort}
use Rattle.event_trees.specs.Edit.{IsForestOf, IsSwitchable, placed_cmp, put_placed, switched}
use Rattle.event_trees.proofs.Paths.{knows}
use Rattle.event_trees.proofs.InOrder.{strict-placed}
use Rattle.event_trees.proofs.Short.{short-placed, short-canon_of}
use Rattle.event_trees.proofs.Sorted.{rises, few}
use Rattle.event_trees.proofs.Switches.{placed-edited}
use Rattle.event_trees.proofs.Whole.{whole}

pub edit-short : (defs : List EventDef) (list : List Reg) (shown : List Shown) → AreDefs defs → IsForestOf defs list shown → AreShort shown
edit-short defs list shown are forest =
    subst AreShort (sym forest.listed) (short-canon_of (placed defs list)
    (short-placed defs list (knows defs are) (recursion_from_All (λ (r : Reg). IsTrue (is_event defs r.event)) list forest.private.events)))

-- the listing is that of the registrations that are read off it
pub edit-canon : (defs : List EventDef) (list : List Reg) (shown : List Shown) → IsForestOf defs list shown → shown ≡ canon_of (read_off shown)
edit-canon defs list shown forest =
    forest.listed ∙ ap canon_of (sym (ap read_off forest.listed ∙ whole (placed defs list) (rises defs list forest.private.sorted)))

-- those after the edit are those of the edited list
pub edit-list : (defs : List EventDef) (list : List Reg) (shown : List Shown) (r : Reg) (on : Bool) (p : Placed) → IsForestOf defs list shown
    → p ≡ placed_of defs r → switched p on (read_off shown) ≡ placed defs (edited defs list r on)
edit-list defs list shown r on p forest at =
    let all : read_off shown ≡ placed defs list = ap read_off forest.listed ∙ whole (placed defs list) (rises defs list forest.private.sorted) in
    ap (switched p on) all ∙ (ap (λ (x : Placed). switched x on (placed defs list)) at ∙ sym (placed-edited defs r on list))

pub edit-order : (defs : List EventDef) (list : List Reg) (more : List Placed) → IsPrivate defs list → more ≡ placed defs list → IsStrictlySortedBy placed_cmp more
edit-order defs list more private same = subst (IsStrictlySortedBy placed_cmp) (sym same) (strict-placed defs list private.sorted)

pub edit-few : (defs : List EventDef) (list : List Reg) (more : List Placed) → IsPrivate defs list → more ≡ placed defs list → length more ≤ 255
edit-few defs list more private same = omega (arith, ap length same, length-map list (placed_of defs), few list private.numbers private.distinct)

put-size : (r : Placed) (list : List Placed) → length (put_placed r list) ≡ length list + 1
put-size r [] = refl
put-size r (s ∷ list) = elim (is_lt (placed_cmp r s)) as (λ b. length (cond b (r ∷ s ∷ list) (s ∷ put_placed r list)) ≡ length (s ∷ list) + 1)
    [ true ↦ omega arith | false ↦ omega (arith, put-size r list) ]

-- one more that makes at most 255
pub put-few : (r : Placed) (on : Bool) (list : List Placed) → on ≡ true → length (switched r on list) ≤ 255 → length list < 255
put-few r on list is h = omega (arith, h, ap (λ (b : Bool). length (switched r b list)) is, put-size r list)

numbers-placed : (defs : List EventDef) (list : List Reg) → map (λ r. r.slot.number) (placed defs list) ≡ numbers_of list
numbers-placed defs [] = refl
numbers-placed defs (r ∷ list) = ap (λ (l : List ℕ). r.number ∷ l) (numbers-placed defs list)

read-list : (defs : List EventDef) (list : List Reg) (shown : List Shown) → IsForestOf defs list shown → read_off shown ≡ placed defs list
read-list defs list shown forest = ap read_off forest.listed ∙ whole (placed defs list) (rises defs list forest.private.sorted)

pub old-order : (defs : List EventDef) (list : List Reg) (shown : List Shown) → IsForestOf defs list shown → IsStrictlySortedBy placed_cmp (read_off shown)
old-order defs list shown forest = edit-order defs list (read_off shown) forest.private (read-list defs list shown forest)

pub old-few : (defs : List EventDef) (list : List Reg) (shown : List Shown) → IsForestOf defs list shown → length (read_off shown) ≤ 255
old-few defs list shown forest = edit-few defs list (read_off shown) forest.private (read-list defs list shown forest)

pub old-distinct : (defs : List EventDef) (list : List Reg) (shown : List Shown) → IsForestOf defs list shown → IsDistinct eqb (map (λ r. r.slot.number) (read_off shown))
old-distinct defs list shown forest =
    subst (λ (l : List Placed). IsDistinct eqb (map (λ r. r.slot.number) l)) (sym (read-list defs list shown forest)) (subst (IsDistinct eqb) (sym (numbers-placed defs list)) forest.private.distinct)

there-at : (defs : List EventDef) (list : List Reg) (number k : ℕ) (d : Reg) → k < length list → (get_or list k d).number ≡ number → list_any (λ r. r.slot.number == number) (placed defs list) ≡ true
there-at defs [] number k d within is = absurd (omega (arith, within))
there-at defs (r ∷ list) number zero d within is = ap (λ (b : Bool). b || list_any (λ s. s.slot.number == number) (placed defs list)) (eq-eqb r.number number is)
there-at defs (r ∷ list) number (suc k) d within is =
    elim (r.number == number) as (λ b. (b || list_any (λ s. s.slot.number == number) (placed defs list)) ≡ true) [ true ↦ refl | false ↦ there-at defs list number k d (omega (arith, within)) is ]

-- one that is switched off is there
pub old-there : (defs : List EventDef) (list : List Reg) (shown : List Shown) (r : Reg) (on : Bool) (number : ℕ) → IsForestOf defs list shown
    → IsSwitchable list r on → number ≡ r.number → on ≡ false → list_any (λ s. s.slot.number == number) (read_off shown) ≡ true
old-there defs list shown r true number forest switch is off = cc
old-there defs list shown r false number forest switch is off =
    ap (λ (l : List Placed). list_any (λ s. s.slot.number == number) l) (read-list defs list shown forest)
    ∙ there-at defs list number switch.0 r switch.1 (ap (λ (x : Reg). x.number) switch.2 ∙ sym is)

pub if_ok : {A E : Type 0} (result : Result A E) (P Q : A → Type 0) → IfOk result P → ((x : A) → P x → Q x) → IfOk result Q
if_ok (Ok x) P Q h k = k x h
if_ok (Err e) P Q h k = tt
