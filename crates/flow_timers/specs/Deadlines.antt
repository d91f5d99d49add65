-- Only for proofs. What the fields of a book keep: a deadline for each name that is noted, and no other.
use Rattle.std.specs.Prelude.{◌≡◌, ℕ, ◌==◌, ◌&&◌, Bool, false, Option, None, Some}
use Rattle.std.specs.declared.cmp.Ordering.{Ordering}
use Rattle.std.specs.Ordering.{nat_cmp, ordering_then}
use Rattle.std.specs.BTreeMap.{BTreeMap, get}
use Rattle.std.specs.BTreeSet.{BTreeSet, contains}
use Rattle.flow_timers.specs.declared.book.Noted.{Noted}
use Rattle.flow_timers.specs.declared.deadline.Deadline.{Deadline}
use Rattle.flow_timers.specs.Notes.{due_second}

abbrev pub deadline_of : ℕ → Noted → Deadline
deadline_of name noted = record { seconds = due_second noted; fraction = noted.last.fraction; name = name }

-- by second, then by fraction, then by name
abbrev pub order : Deadline → Deadline → Ordering
order a b = ordering_then (nat_cmp a.seconds b.seconds) (ordering_then (nat_cmp a.fraction b.fraction) (nat_cmp a.name b.name))

-- whether d is the deadline of what is noted of its name, if anything
abbrev pub is_deadline : Deadline → Option Noted → Bool
is_deadline d None = false
is_deadline d (Some noted) = d.seconds == due_second noted && d.fraction == noted.last.fraction

abbrev pub AreDeadlines : BTreeMap ℕ Noted → BTreeSet Deadline → Type 0
AreDeadlines noted deadlines = (d : Deadline) → contains order deadlines d ≡ is_deadline d (get nat_cmp noted d.name)
