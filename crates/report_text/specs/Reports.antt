-- Not of the headline. Which texts are reports, with which a report begins, and where a text stops being one.
use Rattle.std.specs.Prelude.{◌≡◌, ℕ, ◌+◌, ◌-◌, ◌==◌, ◌<◌, List, ◌++◌, take, drop, slice_index, IsTrue, Some}
use Rattle.std.specs.List.{list_all, position}
use Rattle.report_text.specs.declared.record.Record.{Record}
use Rattle.report_text.specs.declared.record.Totals.{Totals}
use Rattle.report_text.specs.Ranges.{record_fits, totals_fit}
use Rattle.report_text.specs.Report.{report_text}
use Rattle.report_text.specs.Tidy.{tidy}

-- the text of tidy records and totals, whose numbers and bytes are those that values have
pub record IsReport (text : List ℕ) (rs : List Record) (t : Totals) : Type 0 where
  pub tidy_records : IsTrue (tidy rs)
  pub records_fit : IsTrue (list_all record_fits rs)
  pub counts_fit : IsTrue (totals_fit t)
  pub is : text ≡ report_text rs t

-- some report begins with the text
pub record BeginsReport (text : List ℕ) : Type 0 where
  pub records : List Record
  pub totals : Totals
  pub rest : List ℕ
  pub whole : IsReport (text ++ rest) records totals

-- The text is no report, and the line that begins at the offset is the first that can't stand there: a report begins with all
-- that stands before it, and none with that and the line. Where no newline follows the offset, what is missing is missing there.
pub record NoReportAt (text : List ℕ) (offset : ℕ) : Type 0 where
  pub before : BeginsReport (take offset text)
  pub starts : 0 < offset → slice_index text (offset - 1) ≡ 10
  pub stops : (k : ℕ) → position (λ b. b == 10) (drop offset text) ≡ Some k → BeginsReport (take (offset + (k + 1)) text) → ⊥
  pub no_report : (rs : List Record) (t : Totals) → IsReport text rs t → ⊥
