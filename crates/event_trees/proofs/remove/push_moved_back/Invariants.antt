use Rattle.std.proofs.Common.{◌≡◌, ◌++◌, drop}
use Rattle.event_trees.specs.Remove.{moved_back}
use Rattle.event_trees.proofs.remove.push_moved_back.Given as goal

abbrev pub invariant-loop-node : goal.invariant-loop-node
invariant-loop-node l = l.out.items ++ moved_back (drop l.node-index l.nodes) ≡ l.initial.out.items ++ moved_back l.nodes
