-- Not of the headline. What a run on several lanes comes to, for the meaning of its application.
use Rattle.std.specs.Prelude.{ℕ, List, Option, Result, Ok, Err}
use Rattle.app_api.specs.App.{Meaning}
use Rattle.pcap_source.specs.Capture.{capture_of}
use Rattle.mos_bytes.specs.Writes.{AppendsFront}
use Rattle.control_script.specs.declared.stamped.Stamped.{Stamped}
use Rattle.run_outcome.specs.Allowed.{MayHave}
use Rattle.capture_replay.specs.declared.output.Output.{Output}
use Rattle.capture_replay.specs.declared.refusal.ReplayError.{ReplayError}
use Rattle.capture_replay.specs.Records.{packets_with, frames_in}
use Rattle.capture_replay.specs.Outcome.{Outcome, outcome_over}
use Rattle.capture_replay.specs.Runs.{Finishes, StopsAs}

module _ (app : Meaning) (script : List Stamped) (lanes : ℕ) (output : Output) (bytes : List ℕ) where
  -- its outcome where its records have these versions
  abbrev pub outcome_with : List ℕ → Outcome ReplayError
  outcome_with vs = outcome_over app script (packets_with app script vs) output bytes

  -- it ends well under these versions, which it may have
  pub record FinishesWith (versions : List ℕ) (old new : Option (List ℕ)) : Type 0 where
    pub may_have : MayHave app script lanes (frames_in (capture_of bytes)) versions
    pub finishes : Finishes (outcome_with versions) versions old new

  -- it stops so under versions that it may have, with a front of its text
  pub record StopsWith (e : ReplayError) (old new : Option (List ℕ)) : Type 0 where
    pub versions : List ℕ
    pub may_have : MayHave app script lanes (frames_in (capture_of bytes)) versions
    pub stops : StopsAs (outcome_with versions) e
    pub front : AppendsFront old new (outcome_with versions).text

  -- it answers versions, or why it stopped
  abbrev pub RunsWith : Option (List ℕ) → Option (List ℕ) → Result (List ℕ) ReplayError → Type 0
  RunsWith old new (Ok versions) = FinishesWith versions old new
  RunsWith old new (Err e) = StopsWith e old new
