use Rattle.worker_pool.proofs.Telling.{ToldBefore}
use Rattle.worker_pool.proofs.team.control.tell_all.Given as goal

abbrev pub invariant-loop-lane : goal.invariant-loop-lane
invariant-loop-lane l = ToldBefore l.place l.lane-index l.initial.lanes l.lanes
