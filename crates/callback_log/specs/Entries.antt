-- Only for proofs. The entries of callbacks whose notes stand in one list, and what those with a peek saw in another.
use Rattle.std.specs.Prelude.{ℕ, ◌+◌, Bool, true, false, if◌then◌else◌, List, [], ◌∷◌}
use Rattle.app_api.specs.declared.entry.Entry.{Entry}
use Rattle.app_api.specs.declared.entry.Seen.{Seen}
use Rattle.app_api.specs.declared.entry.Seen.TheVariants.{Nothing, Next, At}
use Rattle.callback_log.specs.declared.note.Note.{Note}

-- whether a callback had a peek
abbrev pub has_seen : Seen → Bool
has_seen Nothing = false
has_seen (Next at missed bytes) = true
has_seen (At off pieces) = true

-- what is kept of what a callback saw
abbrev pub seen_kept : Seen → List Seen
seen_kept seen = if has_seen seen then seen ∷ [] else []

-- the entry of a callback that saw this
abbrev pub entry_with : Note → Seen → Entry
entry_with note seen = record {
  index = note.index;
  hook = note.hook;
  event = note.event;
  reg = note.reg;
  seen = seen;
}

-- what a callback saw: the first of what is left, if it had a peek
abbrev pub seen_first : Bool → List Seen → Seen
seen_first false seen = Nothing
seen_first true [] = Nothing
seen_first true (first ∷ rest) = first

-- what is left for the callbacks after it
abbrev pub seen_later : Bool → List Seen → List Seen
seen_later false seen = seen
seen_later true [] = []
seen_later true (first ∷ rest) = rest

-- the callbacks in order, each with a peek taking the next of what was seen
abbrev pub entries_of : List Note → List Seen → List Entry
entries_of [] seen = []
entries_of (note ∷ notes) seen = entry_with note (seen_first note.saw seen) ∷ entries_of notes (seen_later note.saw seen)

-- how much those with a peek take
abbrev pub peeks_in : List Note → ℕ
peeks_in [] = 0
peeks_in (note ∷ notes) = (if note.saw then 1 else 0) + peeks_in notes
