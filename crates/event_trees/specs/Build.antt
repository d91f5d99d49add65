-- Only for proofs. The steps by which a tree is built: one registration after the other, in the order of their paths.
use Rattle.std.specs.Prelude.{ℕ, suc, ◌+◌, ◌==◌, if◌then◌else◌, List, [], ◌∷◌, drop, map}
use Rattle.shared_forest.specs.declared.node.Node.{Node}
use Rattle.shared_forest.specs.declared.node.Slot.{Slot}
use Rattle.shared_forest.specs.Layout.{under}
use Rattle.event_trees.specs.declared.placed.PlacedReg.{PlacedReg}
use Rattle.event_trees.specs.EventPath.{path_of}
use Rattle.event_trees.specs.Canon.{Placed}

-- a registration with its path, as it is seen
abbrev pub seen : PlacedReg → Placed
seen r = record { path = path_of r.path; slot = r.slot }

abbrev pub all_seen : List PlacedReg → List Placed
all_seen list = map seen list

abbrev pub seen_slots : List PlacedReg → List Slot
seen_slots list = map (λ r. r.slot) list

-- how many events two paths have in common at their beginnings
abbrev pub common : List ℕ → List ℕ → ℕ
common [] p = 0
common (a ∷ q) [] = 0
common (a ∷ q) (b ∷ p) = if a == b then suc (common q p) else 0

-- nodes one under the other, without registrations; depth is that of the node above
abbrev pub fresh : ℕ → ℕ → List ℕ → List Node
fresh first depth [] = []
fresh first depth (e ∷ es) =
    record { event = e; depth = depth + 1; below = 0; first = first; count = 0 } ∷ fresh first (depth + 1) es

-- the nodes of a path that the path of the last node doesn't have
abbrev pub fresh_nodes : ℕ → List ℕ → List ℕ → List Node
fresh_nodes first q p = fresh first (common q p) (drop (common q p) p)

-- the last node has one registration more
abbrev pub bumped : List Node → List Node
bumped [] = []
bumped (n ∷ []) = record n { count = n.count + 1 } ∷ []
bumped (n ∷ m ∷ ns) = n ∷ bumped (m ∷ ns)

-- each node counts those under it
abbrev pub counted : List Node → List Node
counted [] = []
counted (n ∷ ns) = record n { below = under n.depth ns } ∷ counted ns
