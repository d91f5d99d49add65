-- Not of the headline. What the report of a run says when it is read back.
use Rattle.std.specs.Prelude.{◌≡◌, ℕ, List, length, drop, Some, Result, Ok, IfOk, IfErr}
use Rattle.app_api.specs.App.{Meaning, IsLawful}
use Rattle.pcap_source.specs.Capture.{Frames, tail, capture_of}
use Rattle.report_text.specs.ReadLaws.{ReadsBack}
use Rattle.report_text.specs.declared.read.ReadBack.{ReadBack}
use Rattle.report_text.specs.declared.read.ReadBack.TheVariants.{NoMemory}
use Rattle.report_text.specs.declared.record.Record.{Record}
use Rattle.report_text.specs.declared.record.Totals.{Totals}
use Rattle.control_script.specs.declared.stamped.Stamped.{Stamped}
use Rattle.capture_replay.specs.declared.output.Output.TheVariants.{Report}
use Rattle.capture_replay.specs.Records.{packets_with}
use Rattle.capture_replay.specs.Outcome.{outcome_over}
use Rattle.capture_replay.specs.Runs.{Finishes, MayRun}
use Rattle.capture_replay.specs.Typed.{ReportIsTyped, counted, shown}

-- what was read is these records and totals, but for want of memory
abbrev pub ReadAs : List Record → Totals → Result (List Record × Totals) ReadBack → Type 0
ReadAs records totals read = IfOk read (λ p. (p.0 ≡ records) × (p.1 ≡ totals)) × IfErr read (λ e. e ≡ NoMemory)

-- What a report run adds to its output where it ends well, read back, is the run's records and totals, but for want of memory: those
-- of the frames of these bytes, under these versions. Each run that ends well promises both that its report is typed and that it
-- finishes.
abbrev pub ReportIsReadBack : Type 0
ReportIsReadBack = (app : Meaning) (script : List Stamped) (vs : List ℕ) (bytes : List ℕ) (f : Frames) (rest : ℕ) → IsLawful app → MayRun app script
    → capture_of bytes ≡ Ok f → f.ending ≡ tail rest → ReportIsTyped app script (packets_with app script vs) bytes
    → (versions before after : List ℕ) → Finishes (outcome_over app script (packets_with app script vs) Report bytes) versions (Some before) (Some after)
    → (read : Result (List Record × Totals) ReadBack) → ReadsBack (drop (length before) after) read
    → ReadAs (shown app script (packets_with app script vs) f.frames) (counted app script (packets_with app script vs) f.frames rest) read
