use Rattle.std.proofs.Common.{◌≡◌, ◌≤◌, ◌-◌, length, drop, List}
use Rattle.native_filters.specs.declared.facts.Hook.{Hook}
use Rattle.shared_forest.specs.declared.node.Slot.{Slot}
use Rattle.event_trees.specs.Walk.{keeps, walked}
use Rattle.event_trees.proofs.walk.Question.next_kept.Given as goal

abbrev pub invariant-loop-i : goal.invariant-loop-i
invariant-loop-i g l =
    (l.initial.i ≤ l.i) × ((hook : Hook) (slots : List Slot) →
    walked (keeps l.self.defs.now l.self.facts.now l.self.root) hook 0 (drop l.i l.nodes) slots
    ≡ walked (keeps l.self.defs.now l.self.facts.now l.self.root) hook 0 (drop l.initial.i l.nodes) slots)

abbrev pub decreases-loop-i : goal.decreases-loop-i
decreases-loop-i g l = length l.initial.nodes - l.i
