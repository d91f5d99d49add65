-- The text of a list from a place on, one piece at a time.
use Rattle.std.proofs.Common.{◌≡◌, ℕ, ◌+◌, ◌<◌, List, [], ◌++◌, length, drop, get_or, slice_get, Some, None, ap, sym, ◌∙◌, inl, inr, flat_map}
use Rattle.std.proofs.lemmas.List.{drop_more, at_drop_all}
use Rattle.std.proofs.lemmas.Option.{slice_get_cases, slice_get_within, get_or_from_slice_get}
use Rattle.app_api.specs.declared.entry.Entry.{Entry}
use Rattle.app_api.specs.declared.reaction.Reason.{Reason}
use Rattle.report_text.specs.declared.record.Record.{Record}
use Rattle.report_text.specs.Lines.{callback_line, drop_line, field_line}
use Rattle.report_text.specs.Report.{record_text, records_text}

pub callbacks-drop : (es : List Entry) (i : ℕ) (e : Entry) → i < length es → e ≡ get_or es i e
    → flat_map callback_line (drop i es) ≡ callback_line e ++ flat_map callback_line (drop (i + 1) es)
callbacks-drop es i e within is =
    ap (flat_map callback_line) (drop_more es i e within) ∙ ap (λ x. callback_line x ++ flat_map callback_line (drop (i + 1) es)) (sym is)

pub records_text-drop : (rs : List Record) (i : ℕ) (r : Record) → i < length rs → r ≡ get_or rs i r
    → records_text (drop i rs) ≡ record_text r ++ records_text (drop (i + 1) rs)
records_text-drop rs i r within is =
    ap records_text (drop_more rs i r within) ∙ ap (λ x. record_text x ++ records_text (drop (i + 1) rs)) (sym is)

pub drops-drop : (ds : List (ℕ × Reason)) (i : ℕ) (d : ℕ × Reason) → i < length ds
    → flat_map drop_line (drop i ds) ≡ drop_line (get_or ds i d) ++ flat_map drop_line (drop (i + 1) ds)
drops-drop ds i d within = ap (flat_map drop_line) (drop_more ds i d within)

pub fields-drop : (fs : List (List ℕ × ℕ)) (i : ℕ) (f : List ℕ × ℕ) → i < length fs → f ≡ get_or fs i f
    → flat_map field_line (drop i fs) ≡ field_line f ++ flat_map field_line (drop (i + 1) fs)
fields-drop fs i f within is =
    ap (flat_map field_line) (drop_more fs i f within) ∙ ap (λ x. field_line x ++ flat_map field_line (drop (i + 1) fs)) (sym is)

-- the same of a list that is asked for one place after another, up to where it has none
pub fields-asked : (fs : List (List ℕ × ℕ)) (i : ℕ) (f : List ℕ × ℕ) → slice_get fs i ≡ Some f
    → flat_map field_line (drop i fs) ≡ field_line f ++ flat_map field_line (drop (i + 1) fs)
fields-asked fs i f here = fields-drop fs i f (slice_get_within fs i f here) (sym (get_or_from_slice_get fs i f f here))

pub fields-past : (fs : List (List ℕ × ℕ)) (i : ℕ) → slice_get fs i ≡ None → flat_map field_line (drop i fs) ≡ []
fields-past fs i none =
    elim (slice_get_cases fs i).1 [
      | inl found ↦ cc (none, found.2)
      | inr beyond ↦ at_drop_all (flat_map field_line) fs i beyond.0
    ]
