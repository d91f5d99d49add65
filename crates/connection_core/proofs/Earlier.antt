-- Private lists under earlier definitions, and the registrations of a tree.
use Rattle.std.proofs.Common.{◌≡◌, ℕ, ◌≤◌, ◌==◌, Bool, true, false, cond, Some, Option, List, [], ◌∷◌, sym, ap, subst, ◌∙◌}
use Rattle.std.specs.Prelude.{IsTrue}
use Rattle.std.specs.List.{All, AllByRecursion}
use Rattle.std.specs.List.Sorted.{IsStrictlySortedBy}
use Rattle.std.specs.Ordering.{nat_cmp, ordering_then}
use Rattle.std.specs.declared.cmp.Ordering.TheVariants.{Less}
use Rattle.std.proofs.lemmas.List.Elements.{All-from_recursion, recursion_from_All}
use Rattle.app_api.specs.declared.registration.Reg.{Reg}
use Rattle.app_api.specs.Reg.{reg_of}
use Rattle.event_trees.specs.declared.defs.EventDef.{EventDef}
use Rattle.event_trees.specs.Defs.{is_event, path}
use Rattle.event_trees.specs.Private.{IsPrivate, path_cmp, reg_cmp}

-- what holds of all registrations holds of the one that a look-up finds
found_by : (P : Reg → Type 0) (b : Bool) (x r : Reg) (rest : Option Reg) → P x → (rest ≡ Some r → P r) → cond b (Some x) rest ≡ Some r → P r
found_by P true x r rest here there is = let same : x ≡ r = cc in subst P same here
found_by P false x r rest here there is = there is

found_all : (P : Reg → Type 0) (n : ℕ) (regs : List Reg) (r : Reg) → AllByRecursion P regs → reg_of regs n ≡ Some r → P r
found_all P n [] r all is = cc
found_all P n (x ∷ xs) r all is = found_by P (x.number == n) x r (reg_of xs n) all.0 (found_all P n xs r all.1) is

known_events : (defs : List EventDef) (regs list : List Reg) → AllByRecursion (λ (r : Reg). IsTrue (is_event defs r.event)) regs
    → AllByRecursion (λ (r : Reg). reg_of regs r.number ≡ Some r) list → AllByRecursion (λ (r : Reg). IsTrue (is_event defs r.event)) list
known_events defs regs [] all known = tt
known_events defs regs (r ∷ list) all known = (found_all (λ (x : Reg). IsTrue (is_event defs x.event)) r.number regs r all known.0, known_events defs regs list all known.1)

pub event_found : (defs : List EventDef) (regs : List Reg) (n : ℕ) (r : Reg) → IsPrivate defs regs → reg_of regs n ≡ Some r → IsTrue (is_event defs r.event)
event_found defs regs n r private is =
    let E : Reg → Type 0 = λ x. IsTrue (is_event defs x.event) in found_all E n regs r (recursion_from_All E regs private.events) is

-- the events of registered registrations are there
pub events_known : (defs : List EventDef) (regs list : List Reg) → IsPrivate defs regs
    → All (λ (r : Reg). reg_of regs r.number ≡ Some r) list → All (λ (r : Reg). IsTrue (is_event defs r.event)) list
events_known defs regs list private known =
    let E : Reg → Type 0 = λ r. IsTrue (is_event defs r.event) in
    let K : Reg → Type 0 = λ r. reg_of regs r.number ≡ Some r in
    All-from_recursion E list (known_events defs regs list (recursion_from_All E regs private.events) (recursion_from_All K list known))

known_as : (at : ℕ → Option Reg) (regs list : List Reg) → ((n : ℕ) → n ≤ 255 → at n ≡ reg_of regs n) → AllByRecursion (λ (r : Reg). (1 ≤ r.number) × (r.number ≤ 255)) list
    → AllByRecursion (λ (r : Reg). at r.number ≡ Some r) list → AllByRecursion (λ (r : Reg). reg_of regs r.number ≡ Some r) list
known_as at regs [] same numbers known = tt
known_as at regs (r ∷ list) same numbers known = (sym (same r.number numbers.0.1) ∙ known.0, known_as at regs list same numbers.1 known.1)

-- the same look-ups find the same
pub known_in : (at : ℕ → Option Reg) (regs list : List Reg) → ((n : ℕ) → n ≤ 255 → at n ≡ reg_of regs n) → All (λ (r : Reg). (1 ≤ r.number) × (r.number ≤ 255)) list
    → All (λ (r : Reg). at r.number ≡ Some r) list → All (λ (r : Reg). reg_of regs r.number ≡ Some r) list
known_in at regs list same numbers known =
    let K : Reg → Type 0 = λ r. reg_of regs r.number ≡ Some r in
    let L : Reg → Type 0 = λ r. at r.number ≡ Some r in
    let N : Reg → Type 0 = λ r. (1 ≤ r.number) × (r.number ≤ 255) in
    All-from_recursion K list (known_as at regs list same (recursion_from_All N list numbers) (recursion_from_All L list known))

-- ---- order

cmp_same : (earlier later : List EventDef) (a b : Reg) → path later a.event ≡ path earlier a.event → path later b.event ≡ path earlier b.event
    → reg_cmp later a b ≡ reg_cmp earlier a b
cmp_same earlier later a b left right =
    ap (λ p. ordering_then (path_cmp p (path later b.event)) (nat_cmp a.number b.number)) left
    ∙ ap (λ p. ordering_then (path_cmp (path earlier a.event) p) (nat_cmp a.number b.number)) right

below_earlier : (earlier later : List EventDef) (a : Reg) (list : List Reg) → path later a.event ≡ path earlier a.event
    → AllByRecursion (λ (r : Reg). path later r.event ≡ path earlier r.event) list
    → AllByRecursion (λ y. reg_cmp later a y ≡ Less) list → AllByRecursion (λ y. reg_cmp earlier a y ≡ Less) list
below_earlier earlier later a [] here all below = tt
below_earlier earlier later a (b ∷ list) here all below = (sym (cmp_same earlier later a b here all.0) ∙ below.0, below_earlier earlier later a list here all.1 below.1)

sorted_earlier : (earlier later : List EventDef) (list : List Reg) → AllByRecursion (λ (r : Reg). path later r.event ≡ path earlier r.event) list
    → IsStrictlySortedBy (reg_cmp later) list → IsStrictlySortedBy (reg_cmp earlier) list
unfolding IsStrictlySortedBy
sorted_earlier earlier later [] all sorted = tt
sorted_earlier earlier later (r ∷ list) all sorted = (below_earlier earlier later r list all.0 all.1 sorted.0, sorted_earlier earlier later list all.1 sorted.1)

paths_same : (earlier later : List EventDef) (list : List Reg) → ((event : ℕ) → IsTrue (is_event earlier event) → path later event ≡ path earlier event)
    → AllByRecursion (λ (r : Reg). IsTrue (is_event earlier r.event)) list → AllByRecursion (λ (r : Reg). path later r.event ≡ path earlier r.event) list
paths_same earlier later [] same all = tt
paths_same earlier later (r ∷ list) same all = (same r.event all.0, paths_same earlier later list same all.1)

-- a private list under later definitions is one under earlier definitions that have its events
pub private_earlier : (earlier later : List EventDef) (list : List Reg) → ((event : ℕ) → IsTrue (is_event earlier event) → path later event ≡ path earlier event)
    → All (λ (r : Reg). IsTrue (is_event earlier r.event)) list → IsPrivate later list → IsPrivate earlier list
private_earlier earlier later list same events p = record {
  numbers = p.numbers;
  events = events;
  distinct = p.distinct;
  sorted = sorted_earlier earlier later list (paths_same earlier later list same (recursion_from_All (λ (r : Reg). IsTrue (is_event earlier r.event)) list events)) p.sorted;
}
