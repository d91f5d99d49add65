use Rattle.std.proofs.Common.{◌≡◌, ◌++◌, drop}
use Rattle.event_trees.specs.Build.{fresh}
use Rattle.event_trees.proofs.nodes.push_nodes.Given as goal

abbrev pub invariant-loop-depth : goal.invariant-loop-depth
invariant-loop-depth l =
    l.nodes.items ++ fresh l.first l.depth (drop l.depth l.path) ≡ l.initial.nodes.items ++ fresh l.first l.initial.depth (drop l.initial.depth l.path)
