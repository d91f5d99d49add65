use Rattle.std.proofs.Common.{◌≡◌, ◌-◌, length, drop}
use Rattle.event_trees.specs.Walk.{called}
use Rattle.event_trees.proofs.place.next_called.Given as goal

abbrev pub invariant-loop-i : goal.invariant-loop-i
invariant-loop-i l = called l.hook (drop l.i l.slots) ≡ called l.hook (drop l.initial.i l.slots)

abbrev pub decreases-loop-i : goal.decreases-loop-i
decreases-loop-i l = length l.initial.slots - l.i
