-- Only for proofs. The steps by which one registration comes into the two lists of a tree.
use Rattle.std.specs.Prelude.{◌≡◌, ℕ, ◌+◌, ◌-◌, ◌<◌, ◌≤◌, ◌&&◌, nat_le, if◌then◌else◌, Bool, true, false, List, [], ◌∷◌, ◌++◌, length, take, drop, ⊤}
use Rattle.std.specs.List.{AllByRecursion}
use Rattle.std.specs.declared.cmp.Ordering.TheVariants.{Less}
use Rattle.std.specs.Ordering.{is_gt}
use Rattle.shared_forest.specs.declared.node.Node.{Node}
use Rattle.shared_forest.specs.declared.node.Slot.{Slot}
use Rattle.shared_forest.specs.Listing.{slots_of, path_after}
use Rattle.event_trees.specs.Private.{path_cmp}
use Rattle.event_trees.specs.Build.{common, bumped}

-- the path of the last node after a node with this path
abbrev pub end_path : List ℕ → List Node → List ℕ
end_path before [] = before
end_path before (n ∷ ns) = end_path (path_after before n) ns

-- the path of the last node of a tree's first nodes
abbrev pub last_path : List Node → List ℕ
last_path [] = []
last_path (top ∷ ns) = end_path [] ns

-- this path is no later than that one
abbrev pub IsUpTo : List ℕ → List ℕ → Type 0
IsUpTo q p = is_gt (path_cmp q p) ≡ false

-- true of each path that is no later than this one and has so many events in common with it
abbrev pub AfterReached : List ℕ → ℕ → (List ℕ → Type 0) → Type 0
AfterReached path depth IsSo = (before : List ℕ) → IsUpTo before path → depth ≡ common before path → IsSo before

-- how many nodes have paths that are no later than this, and how many events it has in common with the last of them
pub record IsReach (nodes : List Node) (path : List ℕ) (node depth : ℕ) : Type 0 where
  pub low : 1 ≤ node
  pub within : node ≤ length nodes
  pub up_to : IsUpTo (last_path (take node nodes)) path
  pub shared : depth ≡ common (last_path (take node nodes)) path
  pub later : node < length nodes → path_cmp path (last_path (take (node + 1) nodes)) ≡ Less

-- the first of these registrations has a greater number
abbrev pub StartsAbove : ℕ → List Slot → Type 0
StartsAbove number [] = ⊤
StartsAbove number (s ∷ ss) = number < s.number

-- the numbers are no greater up to a place, and greater from there on
pub record IsBetween (number : ℕ) (slots : List Slot) (place : ℕ) : Type 0 where
  pub within : place ≤ length slots
  pub low : AllByRecursion (λ s. s.number ≤ number) (take place slots)
  pub high : StartsAbove number (drop place slots)

-- where a registration with this number comes in: at a node, or behind it, where its own node is new
pub record IsSpot (number : ℕ) (is_new : Bool) (node : Node) (slots : List Slot) (place : ℕ) : Type 0 where
  pub low : node.first ≤ place
  pub high : place ≤ node.first + node.count
  pub new : is_new ≡ true → place ≡ node.first + node.count
  pub old : is_new ≡ false → IsBetween number (slots_of node slots) (place - node.first)

-- nodes one under the other, each of which counts those under it; depth is that of the node above
abbrev pub chain : ℕ → ℕ → List ℕ → List Node
chain first depth [] = []
chain first depth (e ∷ es) =
    record { event = e; depth = depth + 1; below = length es; first = first; count = 0 } ∷ chain first (depth + 1) es

-- a node before a place at which so many come in under a node of this depth: it counts them where it is above them
abbrev pub raised_by : ℕ → ℕ → ℕ → Node → Node
raised_by depth more behind n =
    record n { below = if nat_le behind n.below && nat_le n.depth depth then n.below + more else n.below }

abbrev pub raised : ℕ → ℕ → List Node → List Node
raised depth more [] = []
raised depth more (n ∷ ns) = raised_by depth more (length ns) n ∷ raised depth more ns

-- the registrations of these nodes stand one place later
abbrev pub moved : List Node → List Node
moved [] = []
moved (n ∷ ns) = record n { first = n.first + 1 } ∷ moved ns

-- the nodes with the missing nodes of a path, and one registration more at its last node
abbrev pub with_path : ℕ → ℕ → ℕ → List ℕ → List Node → List Node
with_path node depth first path nodes =
    bumped (raised depth (length path - depth) (take node nodes) ++ chain first depth (drop depth path)) ++ moved (drop node nodes)
