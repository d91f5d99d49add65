use Rattle.std.proofs.Common.{arith}
use Rattle.event_trees.proofs.Places.{few-rows}
use Rattle.event_trees.proofs.defs.Defs.count.Goals as goal

pub overflow_cast-result : goal.overflow_cast-result
overflow_cast-result c = omega (arith, few-rows c.self.inside.rows.items c.self.invariant.0, c.len.ensures)
