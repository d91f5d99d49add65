use Rattle.std.proofs.Common.{◌≡◌, ◌+◌, drop}
use Rattle.event_trees.specs.Build.{common}
use Rattle.event_trees.proofs.nodes.common_len.Given as goal

abbrev pub invariant-loop-i : goal.invariant-loop-i
invariant-loop-i l = common l.last l.path ≡ l.i + common (drop l.i l.last) (drop l.i l.path)
