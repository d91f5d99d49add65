-- Not of the headline. What a resequencer holds: answers that came before their turn.
use Rattle.std.specs.Prelude.{◌≡◌, ℕ, ◌+◌, ◌-◌, Bool, ◌||◌, Option, Some, None, List, [], ◌∷◌, ◌++◌, length, drop, set, get_or, nat_lt, nat_le, is_some, if◌then◌else◌}
use Rattle.lane_rings.specs.declared.items.Answer.{Answer}

-- the next index to be given out, and a place for each index from it on: the answer that was offered, if there is one
pub record Waiting : Type 0 where
  pub next : ℕ
  pub window : List (Option Answer)

-- each answer stands in the place of its index
abbrev pub AreNumbered : ℕ → List (Option Answer) → Type 0
AreNumbered next window = (d : ℕ) (a : Answer) → get_or window d None ≡ Some a → a.index ≡ next + d

-- the answer whose turn it is
abbrev pub first_of : Waiting → Option Answer
first_of w = get_or w.window 0 None

-- an index that was given out, that is held, or that lies as far above the next one as there are places
abbrev pub is_refused : Waiting → ℕ → Bool
is_refused w index =
    nat_lt index w.next || (is_some (get_or w.window (index - w.next) None) || nat_le (w.next + length w.window) index)

-- one more answer
abbrev pub holding : Waiting → Answer → Waiting
holding w a = record { next = w.next; window = set w.window (a.index - w.next) (Some a) }

-- after the answer whose turn it was, if it is there
abbrev pub moved_on : Waiting → Waiting
moved_on w =
    if is_some (first_of w) then record { next = w.next + 1; window = drop 1 w.window ++ None ∷ [] } else w
