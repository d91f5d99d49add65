use Rattle.lane_core.specs.Steps.{taking}
use Rattle.lane_core.specs.Packets.{Leaves}
use Rattle.lane_core.proofs.EndOfRun.{EndsFront}
use Rattle.lane_core.proofs.records.Records.end_each.Given as goal

-- the records so far that were idle for too long have ended
abbrev pub invariant-loop-place : goal.invariant-loop-place
invariant-loop-place g l = record {
  ends : EndsFront (taking g.A.App.meaning l.terms) l.fn.self l.self l.place;
  left : Leaves l.fn.self l.self;
}
