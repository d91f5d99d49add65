use Rattle.std.proofs.Common.{◌≡◌, ◌++◌, drop}
use Rattle.event_trees.specs.Insert.{raised}
use Rattle.event_trees.proofs.insert.push_raised.Given as goal

abbrev pub invariant-loop-i : goal.invariant-loop-i
invariant-loop-i l = l.out.items ++ raised l.depth l.more (drop l.i l.nodes) ≡ l.initial.out.items ++ raised l.depth l.more l.nodes
