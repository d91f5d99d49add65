use Rattle.event_trees.proofs.Places.{none-indexed}
use Rattle.event_trees.proofs.defs.Defs.new.Goals as goal

pub invariant_of-result : goal.invariant_of-result
invariant_of-result c = none-indexed c.new.result.items c.new.ensures.items
