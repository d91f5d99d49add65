-- Not of the headline. Laws on the versions of a run, in the subject's own words.
use Rattle.std.specs.Prelude.{◌≡◌, ℕ, not, List, IsTrue}
use Rattle.std.specs.List.{list_all}
use Rattle.app_api.specs.App.{Meaning}
use Rattle.pcap_source.specs.Capture.{capture_of}
use Rattle.control_script.specs.declared.stamped.Stamped.{Stamped}
use Rattle.control_script.specs.Order.{are_in_order}
use Rattle.control_script.specs.Versions.{is_live}
use Rattle.run_outcome.specs.Allowed.{MayHave}
use Rattle.capture_replay.specs.declared.output.Output.{Output}
use Rattle.capture_replay.specs.Records.{packets_of, packets_with, records_of, versions_of, frames_in}
use Rattle.capture_replay.specs.Forward.{forwarded}
use Rattle.capture_replay.specs.Outcome.{outcome_over}

-- the versions that the records of these bytes have with one worker: each the ceiling of its first packet
abbrev pub ceilings_of : Meaning → List Stamped → List ℕ → List ℕ
ceilings_of app script bytes = versions_of (records_of app script (packets_of script) (frames_in (capture_of bytes)))

-- any number of workers may have them
abbrev pub CeilingsMayBeHad : Type 0
CeilingsMayBeHad = (app : Meaning) (script : List Stamped) (workers : ℕ) (bytes : List ℕ) → IsTrue (are_in_order script)
    → MayHave app script workers (frames_in (capture_of bytes)) (ceilings_of app script bytes)

-- a run under them is that of one worker
abbrev pub CeilingsAreOneWorkers : Type 0
CeilingsAreOneWorkers = (app : Meaning) (script : List Stamped) (output : Output) (bytes : List ℕ)
    → outcome_over app script (packets_with app script (ceilings_of app script bytes)) output bytes ≡ outcome_over app script (packets_of script) output bytes

-- its records are the same
abbrev pub CeilingsRecordTheSame : Type 0
CeilingsRecordTheSame = (app : Meaning) (script : List Stamped) (bytes : List ℕ)
    → records_of app script (packets_with app script (ceilings_of app script bytes)) (frames_in (capture_of bytes))
    ≡ records_of app script (packets_of script) (frames_in (capture_of bytes))

-- and the same packets are forwarded
abbrev pub CeilingsForwardTheSame : Type 0
CeilingsForwardTheSame = (app : Meaning) (script : List Stamped) (bytes : List ℕ)
    → forwarded app script (packets_with app script (ceilings_of app script bytes)) (frames_in (capture_of bytes)) ≡ forwarded app script (packets_of script) (frames_in (capture_of bytes))

-- without live commands no other versions may be had, however many workers there are
abbrev pub OneListIsAllowed : Type 0
OneListIsAllowed = (app : Meaning) (script : List Stamped) (workers : ℕ) (bytes vs : List ℕ) → IsTrue (are_in_order script)
    → IsTrue (list_all (λ s. not (is_live s.stamp)) script) → MayHave app script workers (frames_in (capture_of bytes)) vs
    → vs ≡ ceilings_of app script bytes
