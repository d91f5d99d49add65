use Rattle.std.proofs.Common.{◌≡◌, ◌<◌, ℕ, List, [], get_or}
use Rattle.pcap_source.specs.Captured.{Captured}
use Rattle.lane_worker.specs.declared.worker.Worker.{Worker}
use Rattle.worker_pool.specs.declared.team.lane_input.LaneInput.{LaneInput}
use Rattle.worker_pool.specs.Inputs.{AreInputs}
use Rattle.worker_pool.proofs.team.lane_input.flush_all.Given as goal

-- no packet came or went, and nothing is unsent for the lanes before this one
abbrev pub invariant-loop-lane : goal.invariant-loop-lane
invariant-loop-lane g l = record {
  kept : (begins : List (Worker g.row.L.Denot)) (frames : List Captured) → AreInputs g.L.Recorder l.context.script.now begins frames l.fn.inputs.items
      → AreInputs g.L.Recorder l.context.script.now begins frames l.inputs.items;
  sent : (k : ℕ) (p : LaneInput g.row.L.Denot) → k < l.lane → (get_or l.inputs.items k p).unsent ≡ [];
}
