use Rattle.lane_rings.specs.Ring.{SameTx}
use Rattle.worker_tests.proofs.rings.send_waiting.Given as goal

abbrev pub invariant-loop : goal.invariant-loop
invariant-loop g l = SameTx l.initial.tx l.tx
