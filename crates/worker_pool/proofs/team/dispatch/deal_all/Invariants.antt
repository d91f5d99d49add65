use Rattle.std.proofs.Common.{◌≡◌, ◌-◌, ◌≤◌}
use Rattle.worker_pool.specs.Onward.{DealsOn, at_start, deal_at}
use Rattle.worker_pool.proofs.team.dispatch.deal_all.Given as goal

-- the packets of some frames were dealt, no fault of the source was told, and the next packet may be read
abbrev pub invariant-loop-frame : goal.invariant-loop-frame
invariant-loop-frame g l = record {
  on : DealsOn g.L.Recorder l.context.script.now (deal_at l.fn.inputs.items l.fn.capture at_start (g.S.Source.left l.fn.source)) (deal_at l.inputs.items l.capture l.so_far (g.S.Source.left l.source));
  faults : g.S.Source.faults l.fn.source ≤ g.S.Source.faults l.source;
  lasts : g.S.Source.lasting l.source ≡ g.S.Source.lasting l.fn.source;
}

abbrev pub decreases-loop-frame : goal.decreases-loop-frame
decreases-loop-frame g l = 1048576 - l.so_far.packets
