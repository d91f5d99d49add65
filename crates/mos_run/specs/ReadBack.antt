-- Not of the headline. What the report of a run says when it is read back.
use Rattle.std.specs.Prelude.{◌≡◌, ℕ, List, length, drop, Some, Result, Ok}
use Rattle.app_api.specs.App.{IsLawful}
use Rattle.pcap_source.specs.Capture.{Frames, tail, capture_of}
use Rattle.pcapng_source.specs.Given.{Given}
use Rattle.report_text.specs.ReadLaws.{ReadsBack}
use Rattle.report_text.specs.declared.read.ReadBack.{ReadBack}
use Rattle.report_text.specs.declared.record.Record.{Record}
use Rattle.report_text.specs.declared.record.Totals.{Totals}
use Rattle.capture_replay.specs.declared.output.Output.TheVariants.{Report}
use Rattle.capture_replay.specs.Records.{packets_with}
use Rattle.capture_replay.specs.ReadBack.{ReadAs}
use Rattle.capture_replay.specs.Runs.{MayRun}
use Rattle.capture_replay.specs.Typed.{counted, shown}
use Rattle.mos_run.specs.Request.{Asked, Wanted}
use Rattle.mos_run.specs.Run.{FinishesUnder}

-- what was read is the records and totals of what a file gives, under these versions, but for want of memory
pub record IsOfRun (w : Wanted) (file : Given) (versions : List ℕ) (read : Result (List Record × Totals) ReadBack) : Type 0 where
  pub capture : Frames
  pub rest : ℕ
  pub of_file : capture_of file.bytes ≡ Ok capture
  pub to_end : capture.ending ≡ tail rest
  pub read_as : ReadAs (shown w.app w.commands (packets_with w.app w.commands versions) capture.frames)
      (counted w.app w.commands (packets_with w.app w.commands versions) capture.frames rest) read

-- What a run adds to its output that is asked for a report and ends well, read back, is its records and totals, but for want of
-- memory.
abbrev pub ReportOfRunIsReadBack : Type 0
ReportOfRunIsReadBack = (w : Wanted) (file : Given) (versions before after : List ℕ) → IsLawful w.app → MayRun w.app w.commands → w.output ≡ Report
    → FinishesUnder (Asked w file) versions (Some before) (Some after)
    → (read : Result (List Record × Totals) ReadBack) → ReadsBack (drop (length before) after) read → IsOfRun w file versions read
