use Rattle.event_trees.proofs.SlotsInOrder.{in_order, in_order-few}
use Rattle.event_trees.proofs.laws.slots_in_order.Goals as goal

pub returns-clause-slots : goal.returns-clause-slots
returns-clause-slots c = λ defs list forest. in_order c.args.tree.now.nodes c.args.tree.now.slots defs list c.nodes-nodes.ensures.tree forest

pub returns-clause-few : goal.returns-clause-few
returns-clause-few c = λ defs list forest. in_order-few c.args.tree.now.nodes c.args.tree.now.slots defs list c.nodes-nodes.ensures.tree forest
