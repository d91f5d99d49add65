use Rattle.std.proofs.Common.{◌≡◌, ◌++◌, drop, take, length}
use Rattle.event_trees.specs.Build.{counted}
use Rattle.event_trees.proofs.nodes.count_below.Given as goal

abbrev pub invariant-loop-i : goal.invariant-loop-i
invariant-loop-i l =
    (length l.nodes ≡ length l.initial.nodes) × (take l.i l.nodes ++ counted (drop l.i l.initial.nodes) ≡ counted l.initial.nodes) × (drop l.i l.nodes ≡ drop l.i l.initial.nodes)
