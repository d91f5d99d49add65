use Rattle.std.proofs.Common.{◌≡◌, ℕ, ◌-◌, ◌≤◌, List, Some, true, length}
use Rattle.pcap_source.specs.Captured.{Captured}
use Rattle.worker_pool.specs.GoesOn.{IsReadTo}
use Rattle.forward_dispatch.specs.OnTheirWay.{AreFew, sent_on}
use Rattle.forward_dispatch.specs.Turns.{WentOn}
use Rattle.forward_dispatch.proofs.dispatch.Dealing.read_all.Given as goal

-- The capture is live and has given so many frames. Their packets were sent, they and what is left are the capture, and few are on their
-- way.
abbrev pub invariant-loop-whole : goal.invariant-loop-whole
invariant-loop-whole g l = record {
  live : l.capture.is_live ≡ true;
  count : l.capture.count ≡ sent_on l.self.way;
  few : sent_on l.self.way ≤ 1048576;
  some : 1 ≤ length l.self.inputs.items;
  on_their_way : AreFew l.capture.count l.self.way;
  read_faults : g.S.Source.faults l.fn.source ≤ g.S.Source.faults l.source;
  write_faults : g.O.Sink.faults l.fn.out ≤ g.O.Sink.faults l.out;
  source_lasts : g.S.Source.lasting l.source ≡ g.S.Source.lasting l.fn.source;
  out_lasts : g.O.Sink.lasting l.out ≡ g.O.Sink.lasting l.fn.out;
  read : (frames : List Captured) × (length frames ≡ sent_on l.self.way)
      × WentOn g.L.Recorder l.context.script.now l.fn.self l.self (g.O.Sink.taken l.fn.out) (g.O.Sink.taken l.out) frames
      × ((bytes : List ℕ) → g.S.Source.left l.fn.source ≡ Some bytes → IsReadTo l.fn.capture bytes frames l.capture (g.S.Source.left l.source));
}

abbrev pub decreases-loop-whole : goal.decreases-loop-whole
decreases-loop-whole g l = 1048576 - sent_on l.self.way
