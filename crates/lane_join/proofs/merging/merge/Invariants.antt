use Rattle.std.proofs.Common.{ℕ}
use Rattle.lane_composition.specs.Merge.{AreOfLanes}
use Rattle.lane_join.specs.Queues.{kept_name, lists_in, waiting}
use Rattle.lane_join.proofs.Merged.{left, IsSoFar}
use Rattle.lane_join.proofs.merging.merge.Given as goal

abbrev pub invariant-loop-items : goal.invariant-loop-items
invariant-loop-items l = (of : ℕ → ℕ) → AreOfLanes kept_name of (lists_in l.fn.ends.items) → IsSoFar of (lists_in l.fn.ends.items) (waiting l.queues.items) l.items.items

abbrev pub decreases-loop-items : goal.decreases-loop-items
decreases-loop-items l = left (waiting l.queues.items)
