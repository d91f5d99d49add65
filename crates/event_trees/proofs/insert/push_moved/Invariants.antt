use Rattle.std.proofs.Common.{◌≡◌, ◌++◌, drop}
use Rattle.event_trees.specs.Insert.{moved}
use Rattle.event_trees.proofs.insert.push_moved.Given as goal

abbrev pub invariant-loop-node : goal.invariant-loop-node
invariant-loop-node l = l.out.items ++ moved (drop l.node-index l.nodes) ≡ l.initial.out.items ++ moved l.nodes
