-- One change of a connection's registrations, and the tree after it.
use Rattle.std.proofs.Common.{◌≡◌, ℕ, suc, ◌+◌, ◌<◌, ◌≤◌, ◌==◌, ◌||◌, Bool, true, false, not, cond, is_some, Some, None, Option, List, [], ◌∷◌, ◌++◌, length, map, take, drop, get_or, refl, sym, ap, subst, ◌∙◌, arith}
use Rattle.std.specs.Prelude.{◌≢◌, if◌then◌else◌}
use Rattle.std.specs.List.{All, AllByRecursion, Contains, list_any}
use Rattle.std.specs.Option.{option_to_list}
use Rattle.std.specs.Ordering.{is_lt}
use Rattle.std.proofs.lemmas.Bool.Decides.{nat_tests}
use Rattle.std.proofs.lemmas.Bool.{false≢true, not-false}
use Rattle.std.proofs.lemmas.List.{take_more, take-append-drop}
use Rattle.std.proofs.lemmas.List.Elements.{All-from_recursion, recursion_from_All, All-filter}
use Rattle.app_api.specs.declared.changes.Change1.{Change1}
use Rattle.app_api.specs.declared.registration.Reg.{Reg}
use Rattle.app_api.specs.Reg.{reg_of}
use Rattle.shared_forest.specs.declared.node.Slot.{Slot}
use Rattle.shared_forest.specs.Lists.{TreeLists}
use Rattle.shared_forest.specs.Listing.{listing}
use Rattle.shared_forest.specs.Store.{CountsAtMost}
use Rattle.event_trees.specs.declared.defs.EventDef.{EventDef}
use Rattle.event_trees.specs.Private.{reg_cmp, put_reg, edited}
use Rattle.event_trees.specs.Canon.{slot_of}
use Rattle.event_trees.specs.Edit.{IsForestOf, IsSwitchable}
use Rattle.forest_versions.specs.State.{ControlState}
use Rattle.connection_core.specs.PacketUnderWay.{PacketUnderWay, is_on, is_so, altered_to, switched, changed, changed_all}
use Rattle.connection_core.specs.Trees.{regs_named, active_in, IsTreeOf, IsForestIn, InternsWithin}
use Rattle.connection_core.specs.Standing.{Alters, Costs}

-- ---- the private list that a tree names

names_slots : (at : ℕ → Option Reg) (list : List Reg) → AllByRecursion (λ (r : Reg). at r.number ≡ Some r) list → regs_named at (map slot_of list) ≡ list
names_slots at [] known = refl
names_slots at (r ∷ list) known =
    ap (λ o. option_to_list o ++ regs_named at (map slot_of list)) known.0 ∙ ap (λ l. r ∷ l) (names_slots at list known.1)

-- a tree with the slots of a list names it
pub tree_names : (at : ℕ → Option Reg) (list : List Reg) (tree : TreeLists) → tree.slots ≡ map slot_of list
    → All (λ (r : Reg). at r.number ≡ Some r) list → active_in at tree ≡ list
unfolding active_in
tree_names at list tree slots known =
    let P : Reg → Type 0 = λ r. at r.number ≡ Some r in
    ap (regs_named at) slots ∙ names_slots at list (recursion_from_All P list known)

pub forest_names : (defs : List EventDef) (at : ℕ → Option Reg) (list : List Reg) (tree : TreeLists)
    → ((d : List EventDef) (l : List Reg) → IsForestOf d l (listing tree) → tree.slots ≡ map slot_of l)
    → IsForestOf defs list (listing tree) → All (λ (r : Reg). at r.number ≡ Some r) list → active_in at tree ≡ list
forest_names defs at list tree slots forest known = tree_names at list tree (slots defs list forest) known

pub forest_in : (defs : List EventDef) (at : ℕ → Option Reg) (list : List Reg) (tree : TreeLists)
    → tree.slots ≡ map slot_of list → IsForestOf defs list (listing tree) → All (λ (r : Reg). at r.number ≡ Some r) list → IsForestIn defs at tree
forest_in defs at list tree slots forest known =
    subst (λ l. IsTreeOf defs at l tree) (sym (tree_names at list tree slots known)) (record { private = forest.private; slots = slots; known = known; listed = forest.listed })

-- ---- whether a registration is on

any_slot : (n : ℕ) (list : List Reg) → list_any (λ (slot : Slot). slot.number == n) (map slot_of list) ≡ is_on n list
any_slot n [] = refl
any_slot n (r ∷ list) =
    let rest = any_slot n list in
    elim (r.number == n) as (λ b. (b || list_any (λ (slot : Slot). slot.number == n) (map slot_of list)) ≡ is_some (cond b (Some r) (reg_of list n))) [
      | true ↦ refl
      | false ↦ rest
    ]

pub on_by_slots : (n : ℕ) (list : List Reg) (slots : List Slot) → slots ≡ map slot_of list → list_any (λ (slot : Slot). slot.number == n) slots ≡ is_on n list
on_by_slots n list slots is = ap (list_any (λ (slot : Slot). slot.number == n)) is ∙ any_slot n list

absent_by : (n : ℕ) (r : Reg) (list : List Reg) (b : Bool) → (r.number == n) ≡ b → is_some (cond b (Some r) (reg_of list n)) ≡ false
    → (r.number ≢ n) × (is_on n list ≡ false)
absent_by n r list true here off = absurd (false≢true (sym off))
absent_by n r list false here off = (λ e. absurd (false≢true (sym here ∙ grind (arith, nat_tests))), off)

absent_all : (n : ℕ) (list : List Reg) → is_on n list ≡ false → AllByRecursion (λ (r : Reg). r.number ≢ n) list
absent_all n [] off = tt
absent_all n (r ∷ list) off =
    let here = absent_by n r list (r.number == n) refl off in (here.0, absent_all n list here.1)

-- a registration that isn't on may be switched on
absent : (r : Reg) (list : List Reg) → is_on r.number list ≡ false → IsSwitchable list r true
absent r list off =
    let P : Reg → Type 0 = λ s. s.number ≢ r.number in All-from_recursion P list (absent_all r.number list off)

present_by : (r x : Reg) (list : List Reg) (b : Bool) → (x.number == r.number) ≡ b → is_some (cond b (Some x) (reg_of list r.number)) ≡ true
    → (x.number ≡ r.number → x ≡ r) → (is_on r.number list ≡ true → Contains list r) → Contains (x ∷ list) r
present_by r x list true here on same there = let is : x ≡ r = same (grind (arith, nat_tests)) in (0, omega arith, is)
present_by r x list false here on same there = let k = there on in (suc k.0, omega (arith, k.1), k.2)

present : (at : ℕ → Option Reg) (r : Reg) (list : List Reg) → at r.number ≡ Some r → AllByRecursion (λ (x : Reg). at x.number ≡ Some x) list
    → is_on r.number list ≡ true → Contains list r
present at r [] here known on = absurd (false≢true on)
present at r (x ∷ list) here known on =
    present_by r x list (x.number == r.number) refl on
    (λ e. let both : Some x ≡ Some r = sym known.0 ∙ ap at e ∙ here in cc)
    (present at r list here known.1)

pub switchable_by : (at : ℕ → Option Reg) (r : Reg) (list : List Reg) (on : Bool) → at r.number ≡ Some r → All (λ (x : Reg). at x.number ≡ Some x) list
    → is_so (is_on r.number list) on ≡ false → IsSwitchable list r on
switchable_by at r list true here known off = absent r list off
switchable_by at r list false here known off =
    let P : Reg → Type 0 = λ x. at x.number ≡ Some x in
    present at r list here (recursion_from_All P list known) (not-false (is_on r.number list) off)

-- ---- the edited list

put_all : (P : Reg → Type 0) (defs : List EventDef) (r : Reg) (list : List Reg) → P r → AllByRecursion P list → AllByRecursion P (put_reg defs r list)
put_all P defs r [] here all = (here, tt)
put_all P defs r (x ∷ list) here all =
    let rest = put_all P defs r list here all.1 in
    elim (is_lt (reg_cmp defs r x)) as (λ b. AllByRecursion P (cond b (r ∷ x ∷ list) (x ∷ put_reg defs r list))) [
      | true ↦ (here, all)
      | false ↦ (all.0, rest)
    ]

-- what holds of a list's registrations and of one more holds of the edited list's
edited_all : (P : Reg → Type 0) (defs : List EventDef) (r : Reg) (list : List Reg) (on : Bool) → P r → All P list → All P (edited defs list r on)
edited_all P defs r list true here all = All-from_recursion P (put_reg defs r list) (put_all P defs r list here (recursion_from_All P list all))
edited_all P defs r list false here all = All-filter (λ (x : Reg). not (x.number == r.number)) P list all

pub edited_known : (at : ℕ → Option Reg) (defs : List EventDef) (r : Reg) (list : List Reg) (on : Bool) → at r.number ≡ Some r
    → All (λ (x : Reg). at x.number ≡ Some x) list → All (λ (x : Reg). at x.number ≡ Some x) (edited defs list r on)
edited_known at defs r list on here all = edited_all (λ (x : Reg). at x.number ≡ Some x) defs r list on here all

-- ---- what a change makes of a packet under way

pub within-same : (i : Option ℕ) (a : ℕ) → InternsWithin i i a a
within-same None a = tt
within-same (Some m) a = (omega arith, omega arith)

pub within-one : (i j : Option ℕ) (a : ℕ) → CountsAtMost i j → InternsWithin i j a (a + 1)
within-one None None a h = tt
within-one None (Some n) a h = absurd h
within-one (Some m) None a h = absurd h
within-one (Some m) (Some n) a h = (h.0, omega (arith, h.1))

pub within-on : (i j k : Option ℕ) (a b d : ℕ) → InternsWithin i j a b → InternsWithin j k b d → InternsWithin i k a d
within-on None None None a b d p q = tt
within-on None None (Some n) a b d p q = absurd q
within-on None (Some m) k a b d p q = absurd p
within-on (Some l) None k a b d p q = absurd p
within-on (Some l) (Some m) None a b d p q = absurd q
within-on (Some l) (Some m) (Some n) a b d p q = (omega (arith, p.0, q.0), omega (arith, p.1, q.1))

pub within-up : (i j : Option ℕ) (a b d : ℕ) → b ≤ d → InternsWithin i j a b → InternsWithin i j a d
within-up None None a b d up p = tt
within-up None (Some n) a b d up p = absurd p
within-up (Some m) None a b d up p = absurd p
within-up (Some m) (Some n) a b d up p = (p.0, omega (arith, p.1, up))

-- ---- alterations are never taken back

switched_rises : (s : ControlState) (o : Option Reg) (on : Bool) (c : PacketUnderWay) → c.altered ≤ (switched s o on c).altered
switched_rises s None on c = omega arith
switched_rises s (Some r) on c =
    elim (is_so (is_on r.number c.active) on) as (λ b. c.altered ≤ (cond b c (altered_to (edited s.defs c.active r on) c)).altered) [
      | true ↦ omega arith
      | false ↦ omega arith
    ]

changed_rises : (s : ControlState) (change : Change1) (c : PacketUnderWay) → c.altered ≤ (changed s change c).altered
unfolding changed
changed_rises s change c = switched_rises s (reg_of s.regs change.reg) change.on c

pub changed_all_rises : (s : ControlState) (changes : List Change1) (c : PacketUnderWay) → c.altered ≤ (changed_all s changes c).altered
changed_all_rises s [] c = omega arith
changed_all_rises s (change ∷ changes) c =
    let one = changed_rises s change c in
    let others = changed_all_rises s changes (changed s change c) in omega (arith, one, others)

-- ---- what changes make

-- the change of a number that isn't registered
pub alters_none : (s : ControlState) (change : Change1) (list : List Reg) (i : Option ℕ) → reg_of s.regs change.reg ≡ None → Alters list list i i (changed s change)
unfolding changed
alters_none s change list i none = record {
  made = λ c is. ap (λ o. (switched s o change.on c).active) none ∙ is;
  interned = λ c is. subst (λ o. InternsWithin i i c.altered (switched s o change.on c).altered) (sym none) (within-same i c.altered);
}

pub so_stays : (s : ControlState) (r : Reg) (on so : Bool) (c : PacketUnderWay) → so ≡ true → (if so then c else altered_to (edited s.defs c.active r on) c) ≡ c
so_stays s r on so c is = ap (λ b. if b then c else altered_to (edited s.defs c.active r on) c) is

pub so_alters : (s : ControlState) (r : Reg) (on so : Bool) (c : PacketUnderWay) → so ≡ false
    → (if so then c else altered_to (edited s.defs c.active r on) c) ≡ altered_to (edited s.defs c.active r on) c
so_alters s r on so c is = ap (λ b. if b then c else altered_to (edited s.defs c.active r on) c) is

-- the change of a registration that is so already
pub alters_so : (s : ControlState) (change : Change1) (r : Reg) (list : List Reg) (i : Option ℕ) → reg_of s.regs change.reg ≡ Some r
    → is_so (is_on r.number list) change.on ≡ true → Alters list list i i (changed s change)
unfolding changed
alters_so s change r list i there so =
    let same : (c : PacketUnderWay) → c.active ≡ list → switched s (reg_of s.regs change.reg) change.on c ≡ c =
    λ c is. ap (λ o. switched s o change.on c) there ∙ so_stays s r change.on (is_so (is_on r.number c.active) change.on) c (ap (λ l. is_so (is_on r.number l) change.on) is ∙ so) in record {
      made = λ c is. ap (λ (w : PacketUnderWay). w.active) (same c is) ∙ is;
      interned = λ c is. subst (λ (w : PacketUnderWay). InternsWithin i i c.altered w.altered) (sym (same c is)) (within-same i c.altered);
    }

-- a change that alters the list
pub alters_edit : (s : ControlState) (change : Change1) (r : Reg) (list after : List Reg) (i j : Option ℕ) → reg_of s.regs change.reg ≡ Some r
    → is_so (is_on r.number list) change.on ≡ false → after ≡ edited s.defs list r change.on → CountsAtMost i j → Alters list after i j (changed s change)
unfolding changed
alters_edit s change r list after i j there so is_after counted =
    let same : (c : PacketUnderWay) → c.active ≡ list → switched s (reg_of s.regs change.reg) change.on c ≡ altered_to (edited s.defs c.active r change.on) c =
    λ c is. ap (λ o. switched s o change.on c) there ∙ so_alters s r change.on (is_so (is_on r.number c.active) change.on) c (ap (λ l. is_so (is_on r.number l) change.on) is ∙ so) in record {
      made = λ c is. ap (λ (w : PacketUnderWay). w.active) (same c is) ∙ ap (λ l. edited s.defs l r change.on) is ∙ sym is_after;
      interned = λ c is. subst (λ (w : PacketUnderWay). InternsWithin i j c.altered w.altered) (sym (same c is)) (within-one i j c.altered counted);
    }

changed_all-append : (s : ControlState) (xs ys : List Change1) (c : PacketUnderWay) → changed_all s (xs ++ ys) c ≡ changed_all s ys (changed_all s xs c)
changed_all-append s [] ys c = refl
changed_all-append s (x ∷ xs) ys c = changed_all-append s xs ys (changed s x c)

pub alters_nothing : (s : ControlState) (list : List Reg) (i : Option ℕ) → Alters list list i i (changed_all s [])
alters_nothing s list i = record { made = λ c is. is; interned = λ c is. within-same i c.altered }

-- one change more
pub alters_more : (s : ControlState) (changes : List Change1) (n : ℕ) (d : Change1) (list now after : List Reg) (i j k : Option ℕ)
    → n < length changes
    → Alters list now i j (changed_all s (take n changes)) → Alters now after j k (changed s (get_or changes n d)) → Alters list after i k (changed_all s (take (n + 1) changes))
alters_more s changes n d list now after i j k within so_far step =
    let change = get_or changes n d in
    let same : (c : PacketUnderWay) → changed_all s (take (n + 1) changes) c ≡ changed s change (changed_all s (take n changes) c) =
    λ c. ap (λ l. changed_all s l c) (take_more changes n d within) ∙ changed_all-append s (take n changes) (change ∷ []) c in record {
      made = λ c is. ap (λ (w : PacketUnderWay). w.active) (same c) ∙ step.made (changed_all s (take n changes) c) (so_far.made c is);
      interned = λ c is. subst (λ (w : PacketUnderWay). InternsWithin i k c.altered w.altered) (sym (same c))
          (within-on i j k c.altered (changed_all s (take n changes) c).altered (changed s change (changed_all s (take n changes) c)).altered
          (so_far.interned c is) (step.interned (changed_all s (take n changes) c) (so_far.made c is)));
    }

-- where only so many of the changes were made
pub costs_of_front : (s : ControlState) (changes : List Change1) (n : ℕ) (list now : List Reg) (i j : Option ℕ)
    → Alters list now i j (changed_all s (take n changes)) → Costs list i j (changed_all s changes)
costs_of_front s changes n list now i j so_far =
    let same : (c : PacketUnderWay) → changed_all s changes c ≡ changed_all s (drop n changes) (changed_all s (take n changes) c) =
    λ c. ap (λ l. changed_all s l c) (sym (take-append-drop n changes)) ∙ changed_all-append s (take n changes) (drop n changes) c in record {
      interned = λ c is.
          let front = changed_all s (take n changes) c in
          subst (λ (w : PacketUnderWay). InternsWithin i j c.altered w.altered) (sym (same c))
          (within-up i j c.altered front.altered (changed_all s (drop n changes) front).altered (changed_all_rises s (drop n changes) front) (so_far.interned c is));
    }

pub so-true : (now on : Bool) → on ≡ true → is_so now on ≡ now
so-true now on is = ap (is_so now) is

pub so-false : (now on : Bool) → on ≡ false → is_so now on ≡ not now
so-false now on is = ap (is_so now) is

-- the tree of the edited list
pub edited_names : (defs : List EventDef) (at : ℕ → Option Reg) (r : Reg) (list : List Reg) (on : Bool) (tree : TreeLists) → at r.number ≡ Some r
    → All (λ (x : Reg). at x.number ≡ Some x) list → ((d : List EventDef) (l : List Reg) → IsForestOf d l (listing tree) → tree.slots ≡ map slot_of l)
    → IsForestOf defs (edited defs list r on) (listing tree) → active_in at tree ≡ edited defs list r on
edited_names defs at r list on tree here known slots forest = forest_names defs at (edited defs list r on) tree slots forest (edited_known at defs r list on here known)

pub edited_forest : (defs : List EventDef) (at : ℕ → Option Reg) (r : Reg) (list : List Reg) (on : Bool) (tree : TreeLists) → at r.number ≡ Some r
    → All (λ (x : Reg). at x.number ≡ Some x) list → ((d : List EventDef) (l : List Reg) → IsForestOf d l (listing tree) → tree.slots ≡ map slot_of l)
    → IsForestOf defs (edited defs list r on) (listing tree) → IsForestIn defs at tree
edited_forest defs at r list on tree here known slots forest =
    forest_in defs at (edited defs list r on) tree (slots defs (edited defs list r on) forest) forest (edited_known at defs r list on here known)

-- what a tree says of whether a registration is so already
pub so_by : (at : ℕ → Option Reg) (n : ℕ) (r : Reg) (list : List Reg) (on so : Bool) (slots : List Slot) → r.number ≡ n → slots ≡ map slot_of list
    → so ≡ is_so (list_any (λ (slot : Slot). slot.number == n) slots) on → is_so (is_on r.number list) on ≡ so
so_by at n r list on so slots num is answer =
    ap (λ m. is_so (is_on m list) on) num ∙ ap (λ b. is_so b on) (sym (on_by_slots n list slots is)) ∙ sym answer
