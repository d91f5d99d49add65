-- Not of the headline. A tree as its two lists.
use Rattle.std.specs.Prelude.{List}
use Rattle.shared_forest.specs.declared.node.Node.{Node}
use Rattle.shared_forest.specs.declared.node.Slot.{Slot}

-- the nodes, and the registrations in the order of their nodes
pub record TreeLists : Type 0 where
  pub nodes : List Node
  pub slots : List Slot
