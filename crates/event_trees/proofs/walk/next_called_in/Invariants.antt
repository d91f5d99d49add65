use Rattle.std.proofs.Common.{◌≡◌, ◌≤◌, ◌-◌, length}
use Rattle.event_trees.specs.Walk.{keeps}
use Rattle.event_trees.specs.Place.{come}
use Rattle.event_trees.proofs.walk.next_called_in.Given as goal

abbrev pub invariant-loop-number : goal.invariant-loop-number
invariant-loop-number g l =
    (l.place.end ≤ length l.slots) × (come (keeps l.question.defs.now l.question.facts.now l.question.root) l.hook l.tree l.place
    ≡ come (keeps l.question.defs.now l.question.facts.now l.question.root) l.hook l.tree l.initial.place)

abbrev pub decreases-loop-number : goal.decreases-loop-number
decreases-loop-number g l = length l.nodes - l.place.node
