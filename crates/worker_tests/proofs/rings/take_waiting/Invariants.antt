use Rattle.lane_rings.specs.Ring.{SameRx}
use Rattle.worker_tests.proofs.rings.take_waiting.Given as goal

abbrev pub invariant-loop : goal.invariant-loop
invariant-loop g l = SameRx l.initial.rx l.rx
