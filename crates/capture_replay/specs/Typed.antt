-- That the numbers and bytes of a run's report have the ranges of their types: definitions are on all natural numbers.
use Rattle.std.specs.Prelude.{◌≡◌, ℕ, List, length, map, Option, Some, Result, Ok, IfOk}
use Rattle.app_api.specs.App.{Meaning}
use Rattle.pcap_source.specs.Captured.{Captured}
use Rattle.pcap_source.specs.Capture.{Frames, tail, capture_of}
use Rattle.report_text.specs.Ranges.{HaveTypes}
use Rattle.report_text.specs.declared.record.Record.{Record}
use Rattle.report_text.specs.declared.record.Totals.{Totals}
use Rattle.control_script.specs.declared.stamped.Stamped.{Stamped}
use Rattle.lane_core.specs.Records.{VersionedPacket}
use Rattle.lane_core.specs.Shown.{record_of}
use Rattle.run_outcome.specs.Totals.{totals_of}
use Rattle.capture_replay.specs.declared.output.Output.{Output}
use Rattle.capture_replay.specs.declared.output.Output.TheVariants.{Report}
use Rattle.capture_replay.specs.declared.refusal.ReplayError.{ReplayError}
use Rattle.capture_replay.specs.Records.{packets_with, records_of}

-- a run, where `given` gives packets their versions
module _ (app : Meaning) (script : List Stamped) (given : List Captured → List VersionedPacket) where
  -- its records over these frames, as the report shows them
  abbrev pub shown : List Captured → List Record
  shown frames = map (record_of app) (records_of app script given frames)

  -- what is counted over them, with so many bytes behind the last packet
  abbrev pub counted : List Captured → ℕ → Totals
  counted frames rest = totals_of (records_of app script given frames) (length frames) rest

  -- the records and totals of its report over these bytes have their types
  abbrev pub ReportIsTyped : List ℕ → Type 0
  ReportIsTyped bytes = (f : Frames) (rest : ℕ) → capture_of bytes ≡ Ok f → f.ending ≡ tail rest → HaveTypes (shown f.frames) (counted f.frames rest)

-- a report that was written whole has, over what was left, under the versions that are answered
abbrev pub WritesTyped : Meaning → List Stamped → Output → Option (List ℕ) → Result (List ℕ) ReplayError → Type 0
WritesTyped app script output left result =
    output ≡ Report → IfOk result (λ versions. (bytes : List ℕ) → left ≡ Some bytes → ReportIsTyped app script (packets_with app script versions) bytes)
