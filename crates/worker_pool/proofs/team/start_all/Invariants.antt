use Rattle.std.proofs.Common.{◌≡◌, ◌≤◌, ◌+◌, ◌++◌, List, length}
use Rattle.std.specs.List.{AllZip}
use Rattle.std.specs.Vec.{vec_capacity}
use Rattle.control_script.specs.Order.{commands_of}
use Rattle.lane_worker.specs.declared.worker.Worker.{Worker}
use Rattle.worker_pool.specs.AtWork.{MayBegin, IsFresh}
use Rattle.worker_pool.proofs.team.start_all.Given as goal

-- the first workers are at their inputs, the others may begin, and for each of these a flag and a place are left
abbrev pub invariant-loop-stop : goal.invariant-loop-stop
invariant-loop-stop g l = record {
  front : List (Worker g.row.L.Denot);
  whole : l.initial.workers.items ≡ front ++ l.workers.items;
  fresh : AllZip (IsFresh g.L.Recorder (commands_of l.script)) front l.inputs.items;
  waiting : AllZip (MayBegin g.L.Recorder (commands_of l.script)) l.workers.items l.packets.items;
  flags : l.stop-index + length l.workers.items ≡ length l.stops;
  room : length l.inputs.items + length l.workers.items ≤ vec_capacity l.inputs;
}
