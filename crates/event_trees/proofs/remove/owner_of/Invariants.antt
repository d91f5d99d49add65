use Rattle.std.proofs.Common.{ℕ, ◌≤◌, length, drop}
use Rattle.shared_forest.specs.Layout.{ArePacked}
use Rattle.event_trees.proofs.remove.owner_of.Given as goal

abbrev pub invariant-loop-i : goal.invariant-loop-i
invariant-loop-i l = (first : ℕ) × (first ≤ l.place) × ArePacked first (drop l.i l.nodes) (length l.tree.slots)
