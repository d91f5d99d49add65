use Rattle.lane_join.specs.Queues.{waiting, IsBest}
use Rattle.lane_join.proofs.merging.lowest.Given as goal

abbrev pub invariant-loop-i : goal.invariant-loop-i
invariant-loop-i l = IsBest l.best (waiting l.queues) l.i
