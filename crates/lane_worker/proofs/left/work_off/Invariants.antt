use Rattle.std.proofs.Common.{◌≡◌, None}
use Rattle.control_script.specs.Order.{commands_of}
use Rattle.lane_rings.specs.Ring.{sent, AreEnds, SameTx}
use Rattle.lane_worker.specs.Worked.{IsReady, Worked}
use Rattle.lane_worker.proofs.left.work_off.Given as goal

-- the worker worked from the call till now and is ready, nothing was sent, and both ends are those of one ring
abbrev pub invariant-loop : goal.invariant-loop
invariant-loop g l = record {
  worked : Worked g.L.Recorder (commands_of l.context.script.now) l.fn.w l.w;
  ready : g.L.Recorder.failed l.w.lane ≡ None → IsReady g.L.Recorder (commands_of l.context.script.now) l.w.lane l.w.commands;
  ends : AreEnds l.packets l.w.packets;
  ring : SameTx l.initial.packets l.packets;
  sent : sent l.packets ≡ sent l.initial.packets;
}
