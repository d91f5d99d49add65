use Rattle.connection_core.specs.InForce.{registered, defs_at}
use Rattle.connection_core.proofs.FirstTrees.{first_names, first_forest}
use Rattle.connection_core.proofs.laws.first_tree_names_the_first_list.Goals as goal

pub returns-clause-list : goal.returns-clause-list
returns-clause-list c = λ s force forest.
    first_names (defs_at c.args.in_force.now) (registered c.args.in_force.now) s c.args.tree.now force.regs force.sound.private c.slots_in_order.ensures.slots forest

pub returns-clause-forest : goal.returns-clause-forest
returns-clause-forest c = λ s force forest.
    first_forest (defs_at c.args.in_force.now) (registered c.args.in_force.now) s c.args.tree.now force.regs force.sound.private c.slots_in_order.ensures.slots forest
