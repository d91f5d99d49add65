-- Not of the headline. What reading and writing are to each other.
use Rattle.std.specs.Prelude.{◌≡◌, ℕ, List, length, drop, Some, Result, IfOk, IfErr, IsOk, IsTrue, ⊤}
use Rattle.std.specs.List.{list_all}
use Rattle.mos_bytes.specs.Writes.{WriteAdds}
use Rattle.report_text.specs.declared.read.ReadBack.{ReadBack}
use Rattle.report_text.specs.declared.read.ReadBack.TheVariants.{NoReport, NoMemory}
use Rattle.report_text.specs.declared.record.Record.{Record}
use Rattle.report_text.specs.declared.record.Totals.{Totals}
use Rattle.report_text.specs.declared.write.TextError.{TextError}
use Rattle.report_text.specs.Ranges.{record_fits, totals_fit}
use Rattle.report_text.specs.Report.{report_text}
use Rattle.report_text.specs.Reports.{IsReport, NoReportAt}
use Rattle.report_text.specs.Tidy.{tidy}

-- what `read_report` may answer of a text
pub record ReadsBack (text : List ℕ) (read : Result (List Record × Totals) ReadBack) : Type 0 where
  pub report : IfOk read (λ p. IsReport text p.0 p.1)
  pub none : IfErr read (λ e. (offset : ℕ) → e ≡ NoReport offset → NoReportAt text offset)

-- reading what was written of tidy records and totals gives these back, but for want of memory
abbrev pub WrittenIsRead : Type 0
WrittenIsRead = (rs : List Record) (t : Totals) → IsTrue (tidy rs) → IsTrue (list_all record_fits rs) → IsTrue (totals_fit t)
    → (read : Result (List Record × Totals) ReadBack) → ReadsBack (report_text rs t) read
    → IfOk read (λ p. (p.0 ≡ rs) × (p.1 ≡ t)) × IfErr read (λ e. e ≡ NoMemory)

-- what a sink gained by a report of tidy records that was written to its end reads as these records and totals, but for want of
-- memory; before it may stand whatever the sink had taken
abbrev pub GainedIsRead : Type 0
GainedIsRead = (before after : List ℕ) (written : Result ⊤ TextError) (rs : List Record) (t : Totals)
    → IsTrue (tidy rs) → IsTrue (list_all record_fits rs) → IsTrue (totals_fit t)
    → WriteAdds (Some before) (Some after) written (report_text rs t) → IsOk written
    → (read : Result (List Record × Totals) ReadBack) → ReadsBack (drop (length before) after) read
    → IfOk read (λ p. (p.0 ≡ rs) × (p.1 ≡ t)) × IfErr read (λ e. e ≡ NoMemory)

-- what is read, written again, is the text
abbrev pub ReadIsWritten : Type 0
ReadIsWritten = (text : List ℕ) (read : Result (List Record × Totals) ReadBack) → ReadsBack text read
    → IfOk read (λ p. report_text p.0 p.1 ≡ text)

-- a text stops being a report at one offset alone
abbrev pub OneOffset : Type 0
OneOffset = (text : List ℕ) (a b : ℕ) → NoReportAt text a → NoReportAt text b → a ≡ b
