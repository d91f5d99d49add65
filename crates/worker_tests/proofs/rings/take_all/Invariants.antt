use Rattle.lane_rings.specs.Ring.{SameRx}
use Rattle.worker_tests.proofs.rings.take_all.Given as goal

abbrev pub invariant-loop-index : goal.invariant-loop-index
invariant-loop-index g l = SameRx l.initial.rx l.rx
