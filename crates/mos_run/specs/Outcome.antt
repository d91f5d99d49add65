-- How a run over a file ends, and what it writes: a replay of what the file gives, behind which the file may be refused.
use Rattle.std.specs.Prelude.{◌≡◌, ◌≢◌, ◌⊎◌, ℕ, List, [], take, Option, Some, None, Result, Ok, Err}
use Rattle.std.specs.Result.{result_map_both}
use Rattle.app_api.specs.App.{Meaning}
use Rattle.pcap_source.specs.Captured.{Captured}
use Rattle.pcap_source.specs.Capture.{Frames, Ending, tail, capture_of}
use Rattle.pcap_source.specs.declared.errors.OpenError.{OpenError}
use Rattle.pcapng_source.specs.Given.{Given}
use Rattle.pcapng_source.specs.declared.fault.NgFault.{NgFault}
use Rattle.control_script.specs.declared.stamped.Stamped.{Stamped}
use Rattle.lane_core.specs.Records.{VersionedPacket}
use Rattle.capture_replay.specs.declared.output.Output.{Output}
use Rattle.capture_replay.specs.declared.refusal.ReplayError.{ReplayError}
use Rattle.capture_replay.specs.Outcome.{Outcome, followed, outcome_by, streamed}
use Rattle.mos_run.specs.declared.refusal.RunError.{RunError}
use Rattle.mos_run.specs.declared.refusal.RunError.TheVariants.{ReadFault, WriteFault, NoMemory}
use Rattle.mos_run.specs.Refusal.{file_refusal, replay_refusal}

-- how a replay ended, as a run tells it
abbrev pub told_as : Outcome ReplayError → Outcome RunError
told_as o = record { text = o.text; ends = result_map_both (λ versions. versions) replay_refusal o.ends }

-- `given` gives the capture's packets their versions
module _ (app : Meaning) (script : List Stamped) (given : List Captured → List VersionedPacket) where
  -- Whole records, to where what the file gives is refused by a record of its own, or else to what stands behind all of its bytes.
  abbrev pub followed_in_file : Output → List ℕ → List Captured → Ending → NgFault → Outcome RunError
  followed_in_file output header frames (tail n) fault = record { text = streamed app script given output header frames; ends = Err (file_refusal fault) }
  followed_in_file output header frames ending fault = told_as (followed app script given output header frames ending)

  abbrev pub outcome_in_file : Output → List ℕ → Result Frames OpenError → Option NgFault → Outcome RunError
  outcome_in_file output header capture None = told_as (outcome_by app script given output header capture)
  outcome_in_file output header (Ok f) (Some fault) = followed_in_file output header f.frames f.ending fault
  outcome_in_file output header (Err e) (Some fault) = told_as (outcome_by app script given output header (Err e))

  -- a run over a file that gives these bytes, and then a refusal or none
  unfoldable pub outcome : Output → Given → Outcome RunError
  outcome output file = outcome_in_file output (take 24 file.bytes) (capture_of file.bytes) file.refusal

-- why a run with this outcome stopped: its refusal, or a fault or want of memory before; a fault of writing only where
-- something is written
abbrev pub StopsAs : Outcome RunError → RunError → Type 0
StopsAs o e = (o.ends ≡ Err e) ⊎ (e ≡ ReadFault) ⊎ (e ≡ NoMemory) ⊎ ((e ≡ WriteFault) × (o.text ≢ []))
