-- Not of the headline. Trees as keys: the test for equal trees, and what of a tree its hash reads.
use Rattle.std.specs.Prelude.{ℕ, Bool, ◌==◌, ◌&&◌, ◌++◌}
use Rattle.std.specs.Cmp.Lexicographic.{pointwise}
use Rattle.std.specs.Hash as fed
use Rattle.std.specs.Hash.{HashWrites}
use Rattle.native_filters.specs.Hook.{is_hook}
use Rattle.native_filters.specs.declared.facts.Hook.{Hook}
use Rattle.native_filters.specs.declared.facts.Hook.TheVariants.{Snd, Rcv}
use Rattle.shared_forest.specs.declared.node.Node.{Node}
use Rattle.shared_forest.specs.declared.node.Slot.{Slot}
use Rattle.shared_forest.specs.Lists.{TreeLists}

abbrev pub same_node : Node → Node → Bool
same_node a b =
    a.event == b.event && (a.depth == b.depth && (a.below == b.below && (a.first == b.first && a.count == b.count)))

abbrev pub same_slot : Slot → Slot → Bool
same_slot a b = a.number == b.number && is_hook a.hook b.hook

-- node by node, and registration by registration
abbrev pub same_tree : TreeLists → TreeLists → Bool
same_tree a b = pointwise same_node a.nodes b.nodes && pointwise same_slot a.slots b.slots

-- a side as a number
abbrev pub hook_number : Hook → ℕ
hook_number Snd = 0
hook_number Rcv = 1

-- each field of a node
abbrev pub node_fed : Node → HashWrites
node_fed n = fed.u16 n.event ++ fed.u8 n.depth ++ fed.u32 n.below ++ fed.u32 n.first ++ fed.u8 n.count

-- each field of a registration
abbrev pub slot_fed : Slot → HashWrites
slot_fed s = fed.u8 s.number ++ fed.u8 (hook_number s.hook)

-- a tree's hash reads each field of each node and registration, and how many there are
abbrev pub tree_fed : TreeLists → HashWrites
tree_fed tree = fed.slice node_fed tree.nodes ++ fed.slice slot_fed tree.slots
