-- Not of the headline. What a book of names holds: a finite map from names to the last moment and the limit.
use Rattle.std.specs.Prelude.{◌≡◌, ℕ, ◌+◌, Bool, false, refl, Option, None, Some}
use Rattle.std.specs.Coded.{Coded, code_by, coded×, coded_ℕ}
use Rattle.std.specs.FinMap as map
use Rattle.std.specs.declared.cmp.Ordering.{Ordering}
use Rattle.std.specs.Ordering.{nat_cmp, ordering_then, is_gt}
use Rattle.flow_timers.specs.declared.book.Noted.{Noted}
use Rattle.flow_timers.specs.declared.moment.Moment.{Moment}
use Rattle.flow_timers.specs.Moments.{is_idle}

abbrev pub Notes : Type 0
Notes = map.FinMap nat_cmp Noted

-- whether what is noted, if anything, is idle at that moment
abbrev pub is_idle_at : Moment → Option Noted → Bool
is_idle_at now None = false
is_idle_at now (Some noted) = is_idle noted.last now noted.limit

-- whether a name is there and idle
abbrev pub is_idle_in : Notes → Moment → ℕ → Bool
is_idle_in notes now name = is_idle_at now (map.get notes name)

-- the second of the deadline; its fraction is that of the last moment
abbrev pub due_second : Noted → ℕ
due_second noted = noted.last.seconds + noted.limit

-- two names by their deadlines: by second, then by fraction, then by the names themselves
abbrev pub deadline_cmp : ℕ → Noted → ℕ → Noted → Ordering
deadline_cmp m a n b =
    ordering_then (nat_cmp (due_second a) (due_second b))
    (ordering_then (nat_cmp a.last.fraction b.last.fraction) (nat_cmp m n))

-- the name is there, and no name has a lesser deadline
abbrev pub IsLeast : Notes → ℕ → Type 0
IsLeast notes name = (noted : Noted) × (map.get notes name ≡ Some noted)
    × ((other : ℕ) (b : Noted) → map.get notes other ≡ Some b → is_gt (deadline_cmp name noted other b) ≡ false)

-- what is noted, as numbers
abbrev pub numbers_of : Noted → (ℕ × ℕ) × ℕ
numbers_of noted = ((noted.last.seconds, noted.last.fraction), noted.limit)

abbrev pub from_numbers : (ℕ × ℕ) × ℕ → Noted
from_numbers n = record { last = record { seconds = n.0.0; fraction = n.0.1 }; limit = n.1 }

abbrev pub coded_noted : Coded Noted
coded_noted = code_by ((ℕ × ℕ) × ℕ) (coded× (coded× coded_ℕ coded_ℕ) coded_ℕ) numbers_of from_numbers (λ noted. refl)

abbrev pub coded_notes : Coded Notes
coded_notes = map.code coded_ℕ coded_noted
