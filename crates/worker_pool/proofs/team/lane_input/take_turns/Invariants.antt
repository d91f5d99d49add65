use Rattle.std.proofs.Common.{◌≡◌, ◌<◌, ℕ, true, false, List, get_or}
use Rattle.pcap_source.specs.Captured.{Captured}
use Rattle.lane_worker.specs.declared.worker.Worker.{Worker}
use Rattle.worker_pool.specs.declared.team.lane_input.LaneInput.{LaneInput}
use Rattle.worker_pool.specs.Inputs.{AreInputs, batches_taken, HasTakenAll}
use Rattle.worker_pool.proofs.team.lane_input.take_turns.Given as goal

-- nothing was sent, and it is known whether a batch was taken: if not, the lanes before this one have taken all that their rings showed
abbrev pub invariant-loop-lane : goal.invariant-loop-lane
invariant-loop-lane g l = record {
  kept : (begins : List (Worker g.row.L.Denot)) (frames : List Captured) → AreInputs g.L.Recorder l.context.script.now begins frames l.fn.inputs.items
      → AreInputs g.L.Recorder l.context.script.now begins frames l.inputs.items;
  took : l.took ≡ true → batches_taken l.fn.inputs.items < batches_taken l.inputs.items;
  none : l.took ≡ false → batches_taken l.inputs.items ≡ batches_taken l.fn.inputs.items;
  all : l.took ≡ false → (k : ℕ) (p : LaneInput g.row.L.Denot) → k < l.lane → HasTakenAll (get_or l.inputs.items k p).place;
}
