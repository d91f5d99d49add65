use Rattle.std.proofs.Common.{◌≡◌, ◌++◌, drop}
use Rattle.event_trees.specs.Remove.{lowered}
use Rattle.event_trees.proofs.remove.push_lowered.Given as goal

abbrev pub invariant-loop-i : goal.invariant-loop-i
invariant-loop-i l = l.out.items ++ lowered l.less (drop l.i l.nodes) ≡ l.initial.out.items ++ lowered l.less l.nodes
