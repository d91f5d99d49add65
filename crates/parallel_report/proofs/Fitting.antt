-- That all of some records fit, put together from fewer.
use Rattle.std.proofs.Common.{◌≡◌, ℕ, ◌<◌, ◌+◌, length, get_or, List, [], ◌∷◌, ◌++◌, true, ap, drop, sym, take, ◌∙◌}
use Rattle.std.specs.Prelude.{Bool, ◌&&◌}
use Rattle.std.specs.List.{list_all}
use Rattle.std.proofs.lemmas.List.Folds.{list_all-append}
use Rattle.std.proofs.lemmas.List.{append_assoc, map-append, take-append-drop, take_more}
use Rattle.app_api.specs.App.{Meaning}
use Rattle.report_text.specs.Ranges.{record_fits}
use Rattle.lane_core.specs.declared.under_way.RecordUnderWay.{RecordUnderWay}
use Rattle.lane_core.specs.End.{ended}
use Rattle.lane_core.specs.KeptEnd.{shown_as}
use Rattle.parallel_report.specs.declared.piece.Piece.{Piece}
use Rattle.parallel_report.specs.Pieces.{records_of}

module _ (app : Meaning) where
  -- whether records fit as they are shown
  abbrev pub fit : List RecordUnderWay → Bool
  fit rs = list_all record_fits (shown_as app rs)

  fit-append : (rs ss : List RecordUnderWay) → fit (rs ++ ss) ≡ (fit rs && fit ss)
  fit-append rs ss = ap (list_all record_fits) (map-append (ended app) rs ss) ∙ list_all-append record_fits (shown_as app rs) (shown_as app ss)

  -- the first of them do: the others decide
  fit-behind : (whole : Bool) (rs ss : List RecordUnderWay) → whole ≡ fit (rs ++ ss) → fit rs ≡ true → whole ≡ fit ss
  fit-behind whole rs ss same fits = same ∙ fit-append rs ss ∙ ap (λ b. b && fit ss) fits

  -- one record more does
  pub fit-more : (rs : List RecordUnderWay) (n : ℕ) (r : RecordUnderWay) → n < length rs → r ≡ get_or rs n r → fit (take n rs) ≡ true
      → record_fits (ended app r) ≡ true → fit (take (n + 1) rs) ≡ true
  fit-more rs n r within is all one =
      ap fit (take_more rs n r within) ∙ fit-append (take n rs) (get_or rs n r ∷ [])
      ∙ ap (λ b. b && fit (get_or rs n r ∷ [])) all
      ∙ ap (λ of. fit (of ∷ [])) (sym is)
      ∙ ap (λ b. b && true) one

  -- the first n and the others do, so all do
  pub fit-cut : (n : ℕ) (rs others : List RecordUnderWay) → others ≡ drop n rs → fit (take n rs) ≡ true → fit others ≡ true → fit rs ≡ true
  fit-cut n rs others rest first last =
      sym (ap fit (take-append-drop n rs)) ∙ fit-append (take n rs) (drop n rs)
      ∙ ap (λ b. b && fit (drop n rs)) first ∙ ap fit (sym rest) ∙ last

  -- the records of the first piece do: those of the others and what is left decide
  pub fit-first : {A : Type 0} (whole : Bool) (ps : List (Piece A)) (p : Piece A) (others : List (Piece A)) (left : List RecordUnderWay) → ps ≡ p ∷ others
      → whole ≡ fit (records_of ps ++ left) → fit p.records.now ≡ true → whole ≡ fit (records_of others ++ left)
  fit-first whole ps p others left is same fits =
      fit-behind whole p.records.now (records_of others ++ left)
      (same ∙ ap (λ qs. fit (records_of qs ++ left)) is ∙ ap fit (append_assoc p.records.now (records_of others) left)) fits
