-- One callback more at the end of a log.
use Rattle.std.proofs.Common.{◌≡◌, ◌+◌, Bool, true, false, List, [], ◌∷◌, ◌++◌, length, refl, ap, ◌∙◌, arith}
use Rattle.std.specs.Prelude.{if◌then◌else◌}
use Rattle.std.proofs.lemmas.List.{length-append}
use Rattle.app_api.specs.declared.entry.Entry.{Entry}
use Rattle.app_api.specs.declared.entry.Seen.{Seen}
use Rattle.app_api.specs.declared.entry.Seen.TheVariants.{Nothing, Next, At}
use Rattle.callback_log.specs.declared.note.Note.{Note}
use Rattle.callback_log.specs.Entries.{has_seen, seen_kept, entry_with, seen_first, seen_later, entries_of, peeks_in}

-- the first callback of a log, whose rest has one more at its end
first_of : (saw : Bool) (first last : Note) (notes : List Note) (peeks more : List Seen)
    → ((rest : List Seen) → peeks_in notes ≡ length rest
    → entries_of (notes ++ last ∷ []) (rest ++ more) ≡ entries_of notes rest ++ entry_with last (seen_first last.saw more) ∷ [])
    → (if saw then 1 else 0) + peeks_in notes ≡ length peeks
    → entry_with first (seen_first saw (peeks ++ more)) ∷ entries_of (notes ++ last ∷ []) (seen_later saw (peeks ++ more))
    ≡ entry_with first (seen_first saw peeks) ∷ (entries_of notes (seen_later saw peeks) ++ entry_with last (seen_first last.saw more) ∷ [])
first_of false first last notes peeks more rest few = ap (λ es. entry_with first Nothing ∷ es) (rest peeks (omega (arith, few)))
first_of true first last notes [] more rest few = absurd (omega (arith, few))
first_of true first last notes (seen ∷ peeks) more rest few = ap (λ es. entry_with first seen ∷ es) (rest peeks (omega (arith, few)))

pub entries_of-append : (notes : List Note) (last : Note) (peeks more : List Seen) → peeks_in notes ≡ length peeks
    → entries_of (notes ++ last ∷ []) (peeks ++ more) ≡ entries_of notes peeks ++ entry_with last (seen_first last.saw more) ∷ []
entries_of-append [] last [] more few = refl
entries_of-append [] last (seen ∷ peeks) more few = absurd (omega (arith, few))
entries_of-append (first ∷ notes) last peeks more few =
    first_of first.saw first last notes peeks more (λ rest fits. entries_of-append notes last rest more fits) few

pub peeks_in-append : (notes : List Note) (last : Note) → peeks_in (notes ++ last ∷ []) ≡ peeks_in notes + (if last.saw then 1 else 0)
peeks_in-append [] last = omega arith
peeks_in-append (first ∷ notes) last = omega (arith, peeks_in-append notes last)

-- what is kept of what a callback saw gives it back
pub seen_first-kept : (seen : Seen) → seen_first (has_seen seen) (seen_kept seen) ≡ seen
seen_first-kept Nothing = refl
seen_first-kept (Next at missed bytes) = refl
seen_first-kept (At off pieces) = refl

pub length-kept : (seen : Seen) → length (seen_kept seen) ≡ (if has_seen seen then 1 else 0)
length-kept Nothing = refl
length-kept (Next at missed bytes) = refl
length-kept (At off pieces) = refl

-- the log with one callback more
pub record Kept (notes notes_after : List Note) (peeks peeks_after : List Seen) (entry : Entry) : Type 0 where
  pub note : notes_after ≡ notes ++ record { index = entry.index; event = entry.event; reg = entry.reg; hook = entry.hook; saw = has_seen entry.seen } ∷ []
  pub seen : peeks_after ≡ peeks ++ seen_kept entry.seen

pub entries_of-kept : (notes notes_after : List Note) (peeks peeks_after : List Seen) (entry : Entry) → peeks_in notes ≡ length peeks
    → Kept notes notes_after peeks peeks_after entry → entries_of notes_after peeks_after ≡ entries_of notes peeks ++ entry ∷ []
entries_of-kept notes notes_after peeks peeks_after entry few kept =
    rw (kept.note, kept.seen) (entries_of-append notes _ peeks (seen_kept entry.seen) few
    ∙ ap (λ seen. entries_of notes peeks ++ record entry { seen = seen } ∷ []) (seen_first-kept entry.seen))

pub peeks_in-kept : (notes notes_after : List Note) (peeks peeks_after : List Seen) (entry : Entry) → peeks_in notes ≡ length peeks
    → Kept notes notes_after peeks peeks_after entry → peeks_in notes_after ≡ length peeks_after
peeks_in-kept notes notes_after peeks peeks_after entry few kept =
    rw (kept.note, kept.seen)
    (omega (
      arith,
      few,
      peeks_in-append notes (record { index = entry.index; event = entry.event; reg = entry.reg; hook = entry.hook; saw = has_seen entry.seen }),
      length-append peeks (seen_kept entry.seen),
      length-kept entry.seen,
    ))
