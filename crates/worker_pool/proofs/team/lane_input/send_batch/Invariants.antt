use Rattle.std.proofs.Common.{◌≡◌, List, []}
use Rattle.control_script.specs.Order.{commands_of}
use Rattle.lane_rings.specs.declared.items.Packet.{Packet}
use Rattle.lane_worker.specs.declared.worker.Worker.{Worker}
use Rattle.worker_pool.specs.Inputs.{IsInput}
use Rattle.worker_pool.proofs.team.lane_input.send_batch.Given as goal

-- the batch is as it was, nothing was sent, and no packet is unsent
abbrev pub invariant-loop : goal.invariant-loop
invariant-loop g l = record {
  same : l.batch ≡ l.initial.batch;
  closed : l.input.unsent ≡ [];
  input : (begin : Worker g.row.L.Denot) (packets : List Packet) → IsInput g.L.Recorder (commands_of l.context.script.now) begin packets l.initial.input
      → IsInput g.L.Recorder (commands_of l.context.script.now) begin packets l.input;
}
