use Rattle.std.proofs.Common.{◌≡◌, None, length}
use Rattle.control_script.specs.Order.{commands_of}
use Rattle.lane_worker.specs.Worked.{IsReady}
use Rattle.lane_worker.specs.Turning.{JudgedTo}
use Rattle.lane_worker.proofs.worker.judge_batch.Given as goal

-- the first packets of the batch were judged, and the worker is ready
abbrev pub invariant-loop-w : goal.invariant-loop-w
invariant-loop-w g l = record {
  judged : JudgedTo g.L.Recorder (commands_of l.context.script.now) l.fn.w l.w l.fn.batch l.judging;
  ready : g.L.Recorder.failed l.w.lane ≡ None → IsReady g.L.Recorder (commands_of l.context.script.now) l.w.lane l.w.commands;
}

abbrev pub decreases-loop-w : goal.decreases-loop-w
decreases-loop-w g l = length l.judging.left
