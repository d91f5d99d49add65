-- The lines of records, put together from those of fewer.
use Rattle.std.proofs.Common.{◌≡◌, ℕ, ◌<◌, ◌+◌, length, get_or, List, [], ◌∷◌, ◌++◌, ap, drop, refl, sym, take, ◌∙◌}
use Rattle.std.proofs.lemmas.List.{append-nil, append_assoc, map-append, take-append-drop, take_more}
use Rattle.app_api.specs.App.{Meaning}
use Rattle.report_text.specs.declared.record.Record.{Record}
use Rattle.report_text.specs.Report.{record_text, records_text}
use Rattle.lane_core.specs.declared.under_way.RecordUnderWay.{RecordUnderWay}
use Rattle.lane_core.specs.End.{ended}
use Rattle.lane_core.specs.KeptEnd.{shown_as}
use Rattle.parallel_report.specs.declared.text.Made.{Made}
use Rattle.parallel_report.specs.Texts.{IsMadeOf}

records_text-append : (rs ss : List Record) → records_text (rs ++ ss) ≡ records_text rs ++ records_text ss
records_text-append [] ss = refl
records_text-append (r ∷ rs) ss =
    ap (λ text. record_text r ++ text) (records_text-append rs ss) ∙ sym (append_assoc (record_text r) (records_text rs) (records_text ss))

module _ (app : Meaning) where
  -- the text of records as lanes keep them
  abbrev pub lines : List RecordUnderWay → List ℕ
  lines rs = records_text (shown_as app rs)

  -- some records, and those behind them
  pub lines-append : (rs ss : List RecordUnderWay) → lines (rs ++ ss) ≡ lines rs ++ lines ss
  lines-append rs ss = ap records_text (map-append (ended app) rs ss) ∙ records_text-append (shown_as app rs) (shown_as app ss)

  -- the first n, and the rest
  pub lines-split : (n : ℕ) (rs : List RecordUnderWay) → lines rs ≡ lines (take n rs) ++ lines (drop n rs)
  lines-split n rs =
      sym (ap lines (take-append-drop n rs)) ∙ lines-append (take n rs) (drop n rs)

  -- one record more
  pub lines-more : (rs : List RecordUnderWay) (n : ℕ) (r : RecordUnderWay) → n < length rs → r ≡ get_or rs n r
      → lines (take (n + 1) rs) ≡ lines (take n rs) ++ record_text (ended app r)
  lines-more rs n r within is =
      ap lines (take_more rs n r within) ∙ lines-append (take n rs) (get_or rs n r ∷ [])
      ∙ ap (λ text. lines (take n rs) ++ text) (append-nil (record_text (ended app (get_or rs n r))) ∙ ap (λ of. record_text (ended app of)) (sym is))

  -- the text that a thread made, and that of the other records
  pub lines-made : (rs : List RecordUnderWay) (made : Made) (text : List ℕ) (others : List RecordUnderWay)
      → IsMadeOf app rs made → text ≡ made.text.items → others ≡ drop made.done rs → lines rs ≡ text ++ lines others
  lines-made rs made text others of same rest =
      lines-split made.done rs ∙ ap (λ l. l ++ lines (drop made.done rs)) (sym of.text ∙ sym same) ∙ ap (λ l. text ++ lines l) (sym rest)
