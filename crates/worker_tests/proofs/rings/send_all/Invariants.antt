use Rattle.lane_rings.specs.Ring.{SameTx}
use Rattle.worker_tests.proofs.rings.send_all.Given as goal

abbrev pub invariant-loop-index : goal.invariant-loop-index
invariant-loop-index g l = SameTx l.initial.tx l.tx
