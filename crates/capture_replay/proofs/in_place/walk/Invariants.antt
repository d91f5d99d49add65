use Rattle.std.proofs.Common.{ℕ, ◌-◌, ◌≤◌, List, Option, length}
use Rattle.mos_bytes.specs.Reads.{BeginsWith}
use Rattle.pcap_source.specs.InPlace.{left_behind}
use Rattle.capture_replay.specs.Reading.{GoesOn, MayReadOn, run_at}
use Rattle.capture_replay.proofs.in_place.walk.Given as goal

-- the run went on over so many bytes, and may read on
abbrev pub invariant-loop-record : goal.invariant-loop-record
invariant-loop-record g l = record {
  within : l.len ≤ length l.front;
  may : MayReadOn g.L.Recorder l.plan.script.now l.plan.output l.lane l.capture l.so_far;
  goes : (left : Option (List ℕ)) → BeginsWith left l.front
      → GoesOn g.L.Recorder g.O.Sink l.plan.script.now l.plan.output (run_at l.fn.lane l.fn.capture l.fn.so_far l.fn.out left) (run_at l.lane l.capture l.so_far l.out (left_behind l.len left));
}

abbrev pub decreases-loop-record : goal.decreases-loop-record
decreases-loop-record g l = 1048576 - l.so_far.packets
