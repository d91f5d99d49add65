use Rattle.lane_core.proofs.Settling.{fewer}
use Rattle.lane_core.proofs.records.follow.settle.Goals as goal

pub returns-clause-fewer : goal.returns-clause-fewer
returns-clause-fewer c = rw c.forget.ensures.removed (fewer c.args.connections.now c.key_between.result)
