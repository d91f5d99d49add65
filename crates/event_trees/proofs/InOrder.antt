-- The listing of registrations in order is in order.
use Rattle.std.proofs.Common.{◌≡◌, ℕ, cond, List, [], ◌∷◌, map, Ordering, refl, sym, ap, subst, ◌∙◌}
use Rattle.std.specs.declared.cmp.Ordering.TheVariants.{Less, Equal, Greater}
use Rattle.std.specs.List.{AllByRecursion}
use Rattle.std.specs.List.Sorted.{IsStrictlySortedBy, IsStrictlyIncreasing}
use Rattle.std.specs.Ordering.{nat_cmp, is_eq, ordering_then}
use Rattle.std.proofs.lemmas.List.Elements.{All-from_recursion}
use Rattle.std.proofs.lemmas.Map.Keys.{IsStrictlyIncreasing-from_sorted}
use Rattle.app_api.specs.declared.registration.Reg.{Reg}
use Rattle.shared_forest.specs.declared.node.Slot.{Slot}
use Rattle.shared_forest.specs.Listing.{Shown, IsInOrder}
use Rattle.event_trees.specs.declared.defs.EventDef.{EventDef}
use Rattle.event_trees.specs.Private.{path_cmp, reg_cmp}
use Rattle.event_trees.proofs.Rises.{Rises}
use Rattle.event_trees.specs.Canon.{Placed, prefixes, put_paths, paths_with, slots_at, shown_at, canon_of, placed_of, placed}
use Rattle.event_trees.specs.Edit.{placed_cmp}
use Rattle.event_trees.proofs.Order.{same_path, itself, sorted-puts}
use Rattle.event_trees.proofs.Sorted.{then_less, from_top}

rises-from : (r : Placed) (list : List Placed) → AllByRecursion (λ s. placed_cmp r s ≡ Less) list → IsStrictlySortedBy placed_cmp list → Rises r.path list
unfolding IsStrictlySortedBy
rises-from r [] h s = tt
rises-from r (t ∷ list) h s = (then_less (path_cmp r.path t.path) (nat_cmp r.slot.number t.slot.number) h.0, rises-from t list s.0 s.1)

pub strict-rises : (list : List Placed) → IsStrictlySortedBy placed_cmp list → Rises [] list
unfolding IsStrictlySortedBy
strict-rises [] s = tt
strict-rises (r ∷ list) s = (from_top r.path, rises-from r list s.0 s.1)

less-placed : (defs : List EventDef) (r : Reg) (list : List Reg) → AllByRecursion (λ s. reg_cmp defs r s ≡ Less) list → AllByRecursion (λ s. placed_cmp (placed_of defs r) s ≡ Less) (placed defs list)
less-placed defs r [] h = tt
less-placed defs r (s ∷ list) h = (h.0, less-placed defs r list h.1)

pub strict-placed : (defs : List EventDef) (list : List Reg) → IsStrictlySortedBy (reg_cmp defs) list → IsStrictlySortedBy placed_cmp (placed defs list)
unfolding IsStrictlySortedBy
strict-placed defs [] s = tt
strict-placed defs (r ∷ list) s = (less-placed defs r list s.0, strict-placed defs list s.1)

-- the paths
paths-shown : (list : List Placed) (ps : List (List ℕ)) → map (λ s. s.path) (shown_at list ps) ≡ ps
paths-shown list [] = refl
paths-shown list (p ∷ ps) = ap (λ (l : List (List ℕ)). p ∷ l) (paths-shown list ps)

sorted-with : (paths : List (List ℕ)) (list : List Placed) → IsStrictlySortedBy path_cmp paths → IsStrictlySortedBy path_cmp (paths_with paths list)
sorted-with paths [] s = s
sorted-with paths (r ∷ list) s = sorted-with (put_paths (prefixes r.path) paths) list (sorted-puts (prefixes r.path) paths s)

-- the numbers at one path
abbrev numbers_at : List Placed → List ℕ → List ℕ
numbers_at list p = map (λ r. r.number) (slots_at list p)

-- at one path the number decides
by_number : (r s : Placed) (p : List ℕ) → r.path ≡ p → s.path ≡ p → placed_cmp r s ≡ Less → nat_cmp r.slot.number s.slot.number ≡ Less
by_number r s p first second less =
    let tied : path_cmp r.path s.path ≡ Equal = ap (λ (q : List ℕ). path_cmp q s.path) (first ∙ sym second) ∙ itself s.path in
    ap (λ (o : Ordering). ordering_then o (nat_cmp r.slot.number s.slot.number)) (sym tied) ∙ less

numbers-above : (r : Placed) (p : List ℕ) (list : List Placed) → r.path ≡ p → AllByRecursion (λ s. placed_cmp r s ≡ Less) list
    → AllByRecursion (λ n. nat_cmp r.slot.number n ≡ Less) (numbers_at list p)
numbers-above r p [] at h = tt
numbers-above r p (s ∷ list) at h =
    elim (path_cmp s.path p) as (λ o. path_cmp s.path p ≡ o → AllByRecursion (λ n. nat_cmp r.slot.number n ≡ Less)
    (map (λ x. x.number) (cond (is_eq o) (s.slot ∷ slots_at list p) (slots_at list p)))) [
      | Less ↦ λ e. numbers-above r p list at h.1
      | Equal ↦ λ e. (by_number r s p at (same_path s.path p e) h.0, numbers-above r p list at h.1)
      | Greater ↦ λ e. numbers-above r p list at h.1
    ] refl

numbers-sorted : (p : List ℕ) (list : List Placed) → IsStrictlySortedBy placed_cmp list → IsStrictlySortedBy nat_cmp (numbers_at list p)
unfolding IsStrictlySortedBy
numbers-sorted p [] s = tt
numbers-sorted p (r ∷ list) s =
    elim (path_cmp r.path p) as (λ o. path_cmp r.path p ≡ o → IsStrictlySortedBy nat_cmp (map (λ x. x.number) (cond (is_eq o) (r.slot ∷ slots_at list p) (slots_at list p)))) [
      | Less ↦ λ e. numbers-sorted p list s.1
      | Equal ↦ λ e. (numbers-above r p list (same_path r.path p e) s.0, numbers-sorted p list s.1)
      | Greater ↦ λ e. numbers-sorted p list s.1
    ] refl

numbers-shown : (list : List Placed) (ps : List (List ℕ)) → IsStrictlySortedBy placed_cmp list → AllByRecursion (λ s. IsStrictlyIncreasing (map (λ r. r.number) s.slots)) (shown_at list ps)
numbers-shown list [] s = tt
numbers-shown list (p ∷ ps) s = (IsStrictlyIncreasing-from_sorted (numbers_at list p) (numbers-sorted p list s), numbers-shown list ps s)

one_sorted : IsStrictlySortedBy path_cmp ([] ∷ [])
unfolding IsStrictlySortedBy
one_sorted = (tt, tt)

pub canon-order : (list : List Placed) → IsStrictlySortedBy placed_cmp list → IsInOrder (canon_of list)
unfolding canon_of
canon-order list s =
    let ps : List (List ℕ) = paths_with ([] ∷ []) list in
    record {
      paths = subst (IsStrictlySortedBy path_cmp) (sym (paths-shown list ps)) (sorted-with ([] ∷ []) list one_sorted);
      numbers = All-from_recursion (λ (x : Shown). IsStrictlyIncreasing (map (λ (r : Slot). r.number) x.slots)) (shown_at list ps) (numbers-shown list ps s);
    }
