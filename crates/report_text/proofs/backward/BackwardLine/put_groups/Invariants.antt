use Rattle.std.proofs.Common.{◌≡◌, ◌+◌, ◌*◌, ◌≤◌, ◌++◌, length, drop}
use Rattle.report_text.specs.Backward.{text_in, room_in}
use Rattle.report_text.specs.Words.{groups_text}
use Rattle.report_text.proofs.backward.BackwardLine.put_groups.Given as goal

-- the last groups are there, and for each of the others is room
abbrev pub invariant-loop-left : goal.invariant-loop-left
invariant-loop-left l =
    (text_in l.self ≡ groups_text (drop l.left l.groups) ++ text_in l.initial.self)
    × (l.left ≤ length l.groups) × (room_in l.initial.self + 5 * l.left ≤ room_in l.self + 35)

abbrev pub decreases-loop-left : goal.decreases-loop-left
decreases-loop-left l = l.left
