use Rattle.std.proofs.Common.{◌≡◌, map}
use Rattle.lane_core.specs.End.{ended}
use Rattle.lane_core.proofs.end.records_of.Given as goal

-- the records of the slots so far
abbrev pub invariant-loop-slot : goal.invariant-loop-slot
invariant-loop-slot g l = l.items.items ≡ map (ended (g.A.App.meaning l.app)) l.yielded
