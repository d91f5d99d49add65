use Rattle.std.proofs.Common.{◌≡◌, ◌≤◌, List, length, All, ◌+◌, ◌++◌}
use Rattle.std.specs.List.{AllZip}
use Rattle.std.specs.Vec.{vec_capacity}
use Rattle.control_script.specs.Order.{commands_of}
use Rattle.worker_pool.specs.declared.team.lane_input.LaneInput.{LaneInput}
use Rattle.worker_pool.specs.AtWork.{IsAtWork, IsBack}
use Rattle.worker_pool.proofs.team.finish.finish_all.Given as goal

-- the workers of the first inputs are back, and at the other inputs some are at work
abbrev pub invariant-loop-input : goal.invariant-loop-input
invariant-loop-input g l = record {
  front : List (LaneInput g.row.L.Denot);
  whole : l.initial.inputs.items ≡ front ++ l.inputs.items;
  back : AllZip (IsBack g.L.Recorder (commands_of l.context.script.now)) front l.workers.items;
  at_work : All (IsAtWork g.L.Recorder (commands_of l.context.script.now)) l.inputs.items;
  room : length l.workers.items + length l.inputs.items ≤ vec_capacity l.workers;
}

abbrev pub decreases-loop-input : goal.decreases-loop-input
decreases-loop-input g l = length l.inputs.items
