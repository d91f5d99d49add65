use Rattle.std.proofs.Common.{◌≡◌, ◌++◌, length}
use Rattle.lane_join.specs.Queues.{lists_in, waiting}
use Rattle.lane_join.proofs.merging.queues_of.Given as goal

abbrev pub invariant-loop-end : goal.invariant-loop-end
invariant-loop-end l = waiting l.queues.items ++ (lists_in l.ends.items) ≡ (lists_in l.fn.ends.items)

abbrev pub decreases-loop-end : goal.decreases-loop-end
decreases-loop-end l = length l.ends.items
