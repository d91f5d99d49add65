-- Not of the headline. What a tree says, with every path written out.
use Rattle.std.specs.Prelude.{ℕ, ◌-◌, List, [], ◌∷◌, ◌++◌, take, drop, map}
use Rattle.std.specs.List.{All}
use Rattle.std.specs.List.Sorted.{IsStrictlySortedBy, IsStrictlyIncreasing}
use Rattle.std.specs.Cmp.Lexicographic.{slice_cmp}
use Rattle.std.specs.Ordering.{nat_cmp}
use Rattle.shared_forest.specs.declared.node.Node.{Node}
use Rattle.shared_forest.specs.declared.node.Slot.{Slot}
use Rattle.shared_forest.specs.Lists.{TreeLists}

-- a path from below the top node to a node, and the node's registrations
pub record Shown : Type 0 where
  pub path : List ℕ
  pub slots : List Slot

-- the registrations of a node
abbrev pub slots_of : Node → List Slot → List Slot
slots_of n slots = take n.count (drop n.first slots)

-- the path of a node that stands after a node with this path
abbrev pub path_after : List ℕ → Node → List ℕ
path_after before n = take (n.depth - 1) before ++ n.event ∷ []

-- the nodes after a node with this path
abbrev pub listing_after : List ℕ → List Node → List Slot → List Shown
listing_after before [] slots = []
listing_after before (n ∷ ns) slots =
    record { path = path_after before n; slots = slots_of n slots } ∷ listing_after (path_after before n) ns slots

abbrev pub listing_of : List Node → List Slot → List Shown
listing_of [] slots = []
listing_of (top ∷ ns) slots = record { path = []; slots = slots_of top slots } ∷ listing_after [] ns slots

-- one pair for each node, in the order of the nodes
abbrev pub listing : TreeLists → List Shown
listing tree = listing_of tree.nodes tree.slots

-- paths by the first event that differs, a prefix first: so siblings stand by rising event. The registrations of a
-- pair stand by rising number
pub record IsInOrder (shown : List Shown) : Type 0 where
  pub paths : IsStrictlySortedBy (slice_cmp nat_cmp) (map (λ s. s.path) shown)
  pub numbers : All (λ s. IsStrictlyIncreasing (map (λ r. r.number) s.slots)) shown
