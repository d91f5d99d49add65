use Rattle.std.proofs.Common.{ℕ, ◌-◌, ◌≤◌, List, Option, length}
use Rattle.mos_bytes.specs.Reads.{BeginsWith}
use Rattle.pcap_source.specs.InPlace.{left_behind}
use Rattle.worker_pool.specs.Onward.{DealsOn, MayDeal, deal_at}
use Rattle.worker_pool.proofs.team.in_place.deal_front.Given as goal

-- the packets whose records stand in so many bytes were dealt, and the next may be
abbrev pub invariant-loop-whole : goal.invariant-loop-whole
invariant-loop-whole g l = record {
  within : l.len ≤ length l.front;
  may : MayDeal g.L.Recorder l.context.script.now l.inputs.items l.capture l.so_far;
  deals : (left : Option (List ℕ)) → BeginsWith left l.front
      → DealsOn g.L.Recorder l.context.script.now (deal_at l.fn.inputs.items l.fn.capture l.fn.so_far left) (deal_at l.inputs.items l.capture l.so_far (left_behind l.len left));
}

abbrev pub decreases-loop-whole : goal.decreases-loop-whole
decreases-loop-whole g l = 1048576 - l.so_far.packets
