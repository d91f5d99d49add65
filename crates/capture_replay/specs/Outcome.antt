-- How a run over a capture ends, and what it writes.
use Rattle.std.specs.Prelude.{ℕ, Bool, true, false, not, ◌&&◌, List, [], ◌++◌, length, take, map, nat_lt, if◌then◌else◌, Option, Some, None, Result, Ok, Err}
use Rattle.app_api.specs.App.{Meaning}
use Rattle.pcap_source.specs.Captured.{Captured}
use Rattle.pcap_source.specs.Capture.{Frames, Ending, tail, too_long, too_many, capture_of}
use Rattle.pcap_source.specs.declared.errors.OpenError.{OpenError}
use Rattle.pcap_source.specs.declared.errors.CaptureFault.TheVariants as Fault
use Rattle.report_text.specs.Report.{report_text}
use Rattle.report_text.specs.declared.record.Record.{Record}
use Rattle.report_text.specs.declared.record.Totals.{Totals}
use Rattle.control_script.specs.declared.stamped.Stamped.{Stamped}
use Rattle.lane_core.specs.Records.{VersionedPacket}
use Rattle.lane_core.specs.Shown.{record_of, weight}
use Rattle.run_outcome.specs.Totals.{totals_of}
use Rattle.words.specs.declared.settings.Emit.{Emit}
use Rattle.words.specs.declared.settings.Settings.{Settings}
use Rattle.capture_replay.specs.declared.output.Output.{Output}
use Rattle.capture_replay.specs.declared.output.Output.TheVariants.{Report, Forward, Summary}
use Rattle.capture_replay.specs.declared.refusal.ReplayError.{ReplayError}
use Rattle.capture_replay.specs.declared.refusal.ReplayError.TheVariants.{Capture, TooMany, Heavy}
use Rattle.capture_replay.specs.Records.{records_of, versions_of}
use Rattle.capture_replay.specs.Forward.{forwarded}
use Rattle.capture_replay.specs.Summary.{summary_text}
use Rattle.capture_replay.specs.Refusal.{header_refusal}

-- ---- what is written

-- the summary of a capture that is made, else the capture without its dropped packets, or the report
abbrev pub output_by : Option ℕ → Emit → Output
output_by (Some n) emit = Summary n
output_by None Emit.Forward = Forward
output_by None emit = Report

abbrev pub output_of : Settings → Output
output_of s = output_by s.make s.emit

abbrev pub is_forward : Output → Bool
is_forward Forward = true
is_forward _ = false

-- how many connections the capture has that is made for a run, where one is: its summary is written
abbrev pub made_for : Output → Option ℕ
made_for Report = None
made_for Forward = None
made_for (Summary n) = Some n

-- what is written at the end, of these records and totals
abbrev pub closing : Output → List Record → Totals → List ℕ
closing Report records totals = report_text records totals
closing Forward records totals = []
closing (Summary n) records totals = summary_text n totals

-- ---- the outcome

-- all that a run writes, of which one that doesn't end well may have written a front; and the versions of its records, or why it
-- is refused
pub record Outcome (E : Type 0) : Type 0 where
  pub text : List ℕ
  pub ends : Result (List ℕ) E

-- refused before anything is written
abbrev pub refused : {E : Type 0} → E → Outcome E
refused e = record { text = []; ends = Err e }

-- `given` gives the capture's packets their versions
module _ (app : Meaning) (script : List Stamped) (given : List Captured → List VersionedPacket) where
  -- what is written while the capture is read
  abbrev pub streamed : Output → List ℕ → List Captured → List ℕ
  streamed output header frames = if is_forward output then header ++ forwarded app script given frames else []

  -- A report may weigh at most 134,217,728: 32 for each callback, and the bytes that it saw. So may what is summed up.
  abbrev pub is_heavy : Output → List Captured → Bool
  is_heavy output frames = not (is_forward output) && nat_lt 134217728 (weight (records_of app script given frames))

  abbrev pub ended : Output → List ℕ → List Captured → ℕ → Outcome ReplayError
  ended output header frames rest = record {
    text = streamed output header frames ++ closing output (map (record_of app) (records_of app script given frames)) (totals_of (records_of app script given frames) (length frames) rest);
    ends = Ok (versions_of (records_of app script given frames));
  }

  -- whole records, to the end of the capture or to where it is refused
  abbrev pub followed : Output → List ℕ → List Captured → Ending → Outcome ReplayError
  followed output header frames (tail n) = if is_heavy output frames then refused Heavy else ended output header frames n
  followed output header frames (too_long offset) = record { text = streamed output header frames; ends = Err (Capture Fault.TooLong offset) }
  followed output header frames (too_many offset) = record { text = streamed output header frames; ends = Err (TooMany offset) }

  -- whole records, to the end of the capture
  abbrev pub weighed : Output → List ℕ → List Captured → ℕ → Outcome ReplayError
  weighed output header frames rest = followed output header frames (tail rest)

  abbrev pub outcome_by : Output → List ℕ → Result Frames OpenError → Outcome ReplayError
  outcome_by output header (Ok f) = followed output header f.frames f.ending
  outcome_by output header (Err e) = refused (header_refusal e)

  -- a run over these bytes
  unfoldable pub outcome_over : Output → List ℕ → Outcome ReplayError
  outcome_over output bytes = outcome_by output (take 24 bytes) (capture_of bytes)
