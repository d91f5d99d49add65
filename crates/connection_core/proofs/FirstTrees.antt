-- The tree of the registrations that are on, and trees under later definitions.
use Rattle.std.proofs.Common.{◌≡◌, ℕ, ◌≤◌, ◌==◌, eqb, Bool, true, false, cond, Some, Option, List, [], ◌∷◌, map, refl, sym, ap, ◌∙◌, arith}
use Rattle.std.specs.List.{All, AllByRecursion, IsDistinct}
use Rattle.std.proofs.lemmas.Bool.Decides.{nat_tests}
use Rattle.std.proofs.lemmas.Bool.{false≢true}
use Rattle.std.proofs.lemmas.List.Elements.{All-from_recursion, recursion_from_All, All-filter}
use Rattle.app_api.specs.declared.registration.Reg.{Reg}
use Rattle.app_api.specs.Reg.{reg_of}
use Rattle.shared_forest.specs.Lists.{TreeLists}
use Rattle.shared_forest.specs.Listing.{listing}
use Rattle.event_trees.specs.declared.defs.EventDef.{EventDef}
use Rattle.event_trees.specs.Private.{IsPrivate, numbers_of}
use Rattle.event_trees.specs.Canon.{slot_of, canon}
use Rattle.event_trees.specs.Edit.{IsForestOf}
use Rattle.forest_versions.specs.State.{ControlState, active as first_active}
use Rattle.connection_core.specs.Trees.{active_in, IsTreeOf, IsForestIn}
use Rattle.connection_core.proofs.Changing.{tree_names, forest_names, forest_in}

-- the first of a list with distinct numbers stands before the others
later_found : (x r : Reg) (rest : Option Reg) (b : Bool) → (x.number == r.number) ≡ b → (x.number ≡ r.number → ⊥) → rest ≡ Some r → cond b (Some x) rest ≡ Some r
later_found x r rest true here other is = absurd (other (grind (arith, nat_tests)))
later_found x r rest false here other is = is

found_later : (x : Reg) (regs list : List Reg) → AllByRecursion (λ (n : ℕ). eqb x.number n ≡ false) (numbers_of list)
    → AllByRecursion (λ (r : Reg). reg_of regs r.number ≡ Some r) list → AllByRecursion (λ (r : Reg). reg_of (x ∷ regs) r.number ≡ Some r) list
found_later x regs [] other known = tt
found_later x regs (r ∷ list) other known =
    (later_found x r (reg_of regs r.number) (x.number == r.number) refl (λ e. absurd (false≢true (sym other.0 ∙ grind (arith, nat_tests)))) known.0, found_later x regs list other.1 known.1)

found_first : (x : Reg) (regs : List Reg) → reg_of (x ∷ regs) x.number ≡ Some x
found_first x regs = let here : (x.number == x.number) ≡ true = grind (arith, nat_tests) in ap (λ b. cond b (Some x) (reg_of regs x.number)) here

-- registrations with distinct numbers are found by them
all_found : (regs : List Reg) → IsDistinct eqb (numbers_of regs) → AllByRecursion (λ (r : Reg). reg_of regs r.number ≡ Some r) regs
unfolding IsDistinct
all_found [] distinct = tt
all_found (x ∷ regs) distinct = (found_first x regs, found_later x regs regs distinct.0 (all_found regs distinct.1))

told_all : (at : ℕ → Option Reg) (regs list : List Reg) → ((n : ℕ) → n ≤ 255 → at n ≡ reg_of regs n) → AllByRecursion (λ (r : Reg). (1 ≤ r.number) × (r.number ≤ 255)) list
    → AllByRecursion (λ (r : Reg). reg_of regs r.number ≡ Some r) list → AllByRecursion (λ (r : Reg). at r.number ≡ Some r) list
told_all at regs [] same numbers known = tt
told_all at regs (r ∷ list) same numbers known = (same r.number numbers.0.1 ∙ known.0, told_all at regs list same numbers.1 known.1)

-- the registrations that are on are told by their numbers
first_known : (at : ℕ → Option Reg) (s : ControlState) → ((n : ℕ) → n ≤ 255 → at n ≡ reg_of s.regs n) → IsPrivate s.defs s.regs → All (λ (r : Reg). at r.number ≡ Some r) (first_active s)
first_known at s same private =
    let K : Reg → Type 0 = λ r. at r.number ≡ Some r in
    let N : Reg → Type 0 = λ r. (1 ≤ r.number) × (r.number ≤ 255) in
    All-filter (λ (r : Reg). r.on) K s.regs (All-from_recursion K s.regs (told_all at s.regs s.regs same (recursion_from_All N s.regs private.numbers) (all_found s.regs private.distinct)))

pub first_names : (defs : List EventDef) (at : ℕ → Option Reg) (s : ControlState) (tree : TreeLists) → ((n : ℕ) → n ≤ 255 → at n ≡ reg_of s.regs n) → IsPrivate s.defs s.regs
    → ((d : List EventDef) (l : List Reg) → IsForestOf d l (listing tree) → tree.slots ≡ map slot_of l) → IsForestOf defs (first_active s) (listing tree)
    → active_in at tree ≡ first_active s
first_names defs at s tree same private slots forest = forest_names defs at (first_active s) tree slots forest (first_known at s same private)

pub first_forest : (defs : List EventDef) (at : ℕ → Option Reg) (s : ControlState) (tree : TreeLists) → ((n : ℕ) → n ≤ 255 → at n ≡ reg_of s.regs n) → IsPrivate s.defs s.regs
    → ((d : List EventDef) (l : List Reg) → IsForestOf d l (listing tree) → tree.slots ≡ map slot_of l) → IsForestOf defs (first_active s) (listing tree)
    → IsForestIn defs at tree
first_forest defs at s tree same private slots forest =
    forest_in defs at (first_active s) tree (slots defs (first_active s) forest) forest (first_known at s same private)

-- ---- later definitions

known_now : (at now : ℕ → Option Reg) (list : List Reg) → ((n : ℕ) → n ≤ 255 → now n ≡ at n) → AllByRecursion (λ (r : Reg). (1 ≤ r.number) × (r.number ≤ 255)) list
    → AllByRecursion (λ (r : Reg). at r.number ≡ Some r) list → AllByRecursion (λ (r : Reg). now r.number ≡ Some r) list
known_now at now [] same numbers known = tt
known_now at now (r ∷ list) same numbers known = (same r.number numbers.0.1 ∙ known.0, known_now at now list same numbers.1 known.1)

-- the registrations of a tree are looked up as before
known_still : (defs : List EventDef) (at now : ℕ → Option Reg) (list : List Reg) (tree : TreeLists) → ((n : ℕ) → n ≤ 255 → now n ≡ at n)
    → IsTreeOf defs at list tree → All (λ (r : Reg). now r.number ≡ Some r) list
known_still defs at now list tree same f =
    let K : Reg → Type 0 = λ r. now r.number ≡ Some r in
    let L : Reg → Type 0 = λ r. at r.number ≡ Some r in
    let N : Reg → Type 0 = λ r. (1 ≤ r.number) × (r.number ≤ 255) in
    All-from_recursion K list (known_now at now list same (recursion_from_All N list f.private.numbers) (recursion_from_All L list f.known))

pub list_stays : (earlier : List EventDef) (at now : ℕ → Option Reg) (tree : TreeLists) → ((n : ℕ) → n ≤ 255 → now n ≡ at n)
    → IsForestIn earlier at tree → active_in now tree ≡ active_in at tree
list_stays earlier at now tree same f = tree_names now (active_in at tree) tree f.slots (known_still earlier at now (active_in at tree) tree same f)

pub forest_stays : (earlier later : List EventDef) (at now : ℕ → Option Reg) (tree : TreeLists)
    → ((list : List Reg) → IsPrivate earlier list → IsPrivate later list) → ((list : List Reg) → IsPrivate earlier list → canon later list ≡ canon earlier list)
    → ((n : ℕ) → n ≤ 255 → now n ≡ at n) → IsForestIn earlier at tree → IsForestIn later now tree
forest_stays earlier later at now tree private canonical same f =
    let list = active_in at tree in
    forest_in later now list tree f.slots
    (record { private = private list f.private; listed = f.listed ∙ sym (canonical list f.private) })
    (known_still earlier at now list tree same f)
