-- Only for proofs. The registrations of a listing, each with its path.
use Rattle.std.specs.Prelude.{ℕ, ◌≤◌, eqb, List, [], ◌∷◌, ◌++◌, map, length}
use Rattle.std.specs.List.{AllByRecursion, IsDistinct}
use Rattle.std.specs.List.Sorted.{IsStrictlySortedBy}
use Rattle.shared_forest.specs.declared.node.Slot.{Slot}
use Rattle.shared_forest.specs.Lists.{TreeLists}
use Rattle.shared_forest.specs.Listing.{Shown, listing}
use Rattle.event_trees.specs.Canon.{Placed, IsCanonOf}
use Rattle.event_trees.specs.Edit.{placed_cmp}

abbrev pub all_at : List ℕ → List Slot → List Placed
all_at path slots = map (λ slot. record { path = path; slot = slot }) slots

abbrev pub read_off : List Shown → List Placed
read_off [] = []
read_off (s ∷ ss) = all_at s.path s.slots ++ read_off ss

-- the registrations of a tree, each with its path
abbrev pub placed_in : TreeLists → List Placed
placed_in tree = read_off (listing tree)

abbrev pub placed_numbers : List Placed → List ℕ
placed_numbers list = map (λ r. r.slot.number) list

-- each path has at most 8 events
abbrev pub AreShort : List Shown → Type 0
AreShort shown = AllByRecursion (λ s. length s.path ≤ 8) shown

-- the tree is that of a private list: its registrations in order, each number once, with the nodes that they need
pub record IsListed (tree : TreeLists) : Type 0 where
  pub short : AreShort (listing tree)
  pub canon : IsCanonOf (placed_in tree) tree
  pub order : IsStrictlySortedBy placed_cmp (placed_in tree)
  pub distinct : IsDistinct eqb (placed_numbers (placed_in tree))
  pub few : length (placed_in tree) ≤ 255
