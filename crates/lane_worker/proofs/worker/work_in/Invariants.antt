use Rattle.std.proofs.Common.{◌≡◌, None}
use Rattle.control_script.specs.Order.{commands_of}
use Rattle.lane_worker.specs.Worked.{IsReady, Worked}
use Rattle.lane_worker.proofs.worker.work_in.Given as goal

-- the worker worked from the call till now, and is ready
abbrev pub invariant-loop : goal.invariant-loop
invariant-loop g l = record {
  worked : Worked g.L.Recorder (commands_of l.context.script.now) l.fn.w l.w;
  ready : g.L.Recorder.failed l.w.lane ≡ None → IsReady g.L.Recorder (commands_of l.context.script.now) l.w.lane l.w.commands;
}
