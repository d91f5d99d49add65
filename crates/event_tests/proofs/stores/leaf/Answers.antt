use Rattle.std.proofs.Common.{ℕ, List, [], ◌∷◌, map, refl, sym, subst, arith, rules}
use Rattle.std.specs.List.Sorted.{IsStrictlySortedBy, IsStrictlyIncreasing}
use Rattle.std.specs.Cmp.Lexicographic.{slice_cmp}
use Rattle.std.specs.Ordering.{nat_cmp}
use Rattle.std.proofs.lemmas.List.Elements.{All-from_recursion}
use Rattle.shared_forest.specs.declared.node.Node.{Node}
use Rattle.shared_forest.specs.declared.node.Slot.{Slot}
use Rattle.shared_forest.specs.Layout.{IsTree}
use Rattle.shared_forest.specs.Listing.{Shown, IsInOrder, listing_of}
use Rattle.event_tests.proofs.stores.leaf.Goals as goal

abbrev nodes : ℕ → List Node
nodes event = record { event = 0; depth = 0; below = 1; first = 0; count = 0 } ∷ record { event = event; depth = 1; below = 0; first = 0; count = 1 } ∷ []

sorted : (event : ℕ) → IsStrictlySortedBy (slice_cmp nat_cmp) ([] ∷ (event ∷ []) ∷ [])
unfolding IsStrictlySortedBy
sorted event = ((refl, tt), (tt, tt))

none : IsStrictlyIncreasing []
none k h = absurd (omega (arith, h))

one : (n : ℕ) → IsStrictlyIncreasing (n ∷ [])
one n k h = absurd (omega (arith, h))

order : (event : ℕ) (slot : Slot) → IsInOrder (listing_of (nodes event) (slot ∷ []))
order event slot = record {
  paths = sorted event;
  numbers = All-from_recursion (λ (s : Shown). IsStrictlyIncreasing (map (λ (r : Slot). r.number) s.slots)) (listing_of (nodes event) (slot ∷ [])) (none, (one slot.number, tt));
}

tree : (event : ℕ) (slot : Slot) → IsTree (nodes event) (slot ∷ [])
tree event slot = record { topped = search rules; packed = search rules; order = order event slot }

pub new-requires : goal.new-requires
new-requires c = subst (λ (l : List Node). IsTree l c.in_ok-slots.slots.items) (sym c.in_ok-nodes.ensures.items)
    (subst (λ (l : List Slot). IsTree (nodes c.args.event) l) (sym c.in_ok-slots.ensures.items) (tree c.args.event _))
