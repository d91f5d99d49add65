use Rattle.std.proofs.Common.{◌≡◌, ◌+◌, drop}
use Rattle.shared_forest.specs.Layout.{under}
use Rattle.event_trees.proofs.nodes.count_under.Given as goal

abbrev pub invariant-loop-node : goal.invariant-loop-node
invariant-loop-node l =
    (l.count ≡ l.node-index) × (under l.depth l.nodes ≡ l.count + under l.depth (drop l.node-index l.nodes))
