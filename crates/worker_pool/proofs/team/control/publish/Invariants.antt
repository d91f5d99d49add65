use Rattle.std.specs.List.{AllZip}
use Rattle.worker_pool.specs.Telling.{HasTold}
use Rattle.worker_pool.proofs.team.control.publish.Given as goal

-- the places before this one were told
abbrev pub invariant-loop-place : goal.invariant-loop-place
invariant-loop-place g l = AllZip (HasTold l.place) l.initial.lanes l.lanes
