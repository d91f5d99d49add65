use Rattle.std.proofs.Common.{◌≡◌, ◌++◌, drop}
use Rattle.event_trees.specs.Insert.{chain}
use Rattle.event_trees.proofs.insert.push_chain.Given as goal

abbrev pub invariant-loop-depth : goal.invariant-loop-depth
invariant-loop-depth l =
    l.out.items ++ chain l.first l.depth (drop l.depth l.path) ≡ l.initial.out.items ++ chain l.first l.initial.depth (drop l.initial.depth l.path)
