use Rattle.std.proofs.Common.{◌≡◌}
use Rattle.lane_rings.specs.Ring.{sent, SameTx}
use Rattle.lane_worker.proofs.ends.send_waiting.Given as goal

-- nothing was sent so far, and the answers are as they were
abbrev pub invariant-loop : goal.invariant-loop
invariant-loop g l = record {
  ring : SameTx l.initial.tx l.tx;
  sent : sent l.tx ≡ sent l.initial.tx;
  same : l.batch ≡ l.initial.batch;
}
