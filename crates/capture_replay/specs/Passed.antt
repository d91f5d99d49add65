-- Not of the headline. What a report says was dropped, and what a forwarded capture holds.
use Rattle.std.specs.Prelude.{◌≡◌, ℕ, Bool, true, false, List, [], ◌∷◌, ◌++◌, map, take, Ok}
use Rattle.std.specs.List.Sorted.{IsPermutation}
use Rattle.app_api.specs.App.{Meaning}
use Rattle.app_api.specs.declared.reaction.Reason.{Reason}
use Rattle.app_api.specs.declared.reaction.Verdict.{Verdict}
use Rattle.app_api.specs.declared.reaction.Verdict.TheVariants.{Pass, Drop}
use Rattle.pcap_source.specs.Captured.{Captured}
use Rattle.pcap_source.specs.Capture.{Frames, tail, capture_of}
use Rattle.pcap_source.specs.Laws.{marked}
use Rattle.report_text.specs.declared.record.Record.{Record}
use Rattle.control_script.specs.declared.stamped.Stamped.{Stamped}
use Rattle.lane_core.specs.Records.{VersionedPacket}
use Rattle.lane_core.specs.Shown.{record_of}
use Rattle.lane_core.specs.Sight.{Arrival}
use Rattle.lane_core.specs.Verdicts.{dropped_of, verdicts_from}
use Rattle.lane_core.specs.Once.{packets_after, joined}
use Rattle.capture_replay.specs.declared.output.Output.TheVariants.{Forward}
use Rattle.capture_replay.specs.Records.{control_at, records_of}
use Rattle.capture_replay.specs.Outcome.{streamed}

abbrev pub passes : Verdict → Bool
passes Pass = true
passes (Drop reason) = false

-- the packets of a report's drop lines, each with its reason
unfoldable pub drop_lines : List Record → List (ℕ × Reason)
drop_lines [] = []
drop_lines (record_ ∷ others) = record_.drops ++ drop_lines others

-- the packets of a run in order, each with what becomes of it
abbrev pub verdicts_of : Meaning → List Stamped → (List Captured → List VersionedPacket) → List Captured → List (Arrival × Verdict)
verdicts_of app script given frames = verdicts_from app (control_at app script) [] (given frames)

-- the captured packets that pass
abbrev pub passed : Meaning → List Stamped → (List Captured → List VersionedPacket) → List Captured → List Captured
passed app script given frames = marked (map (λ j. passes j.1) (verdicts_of app script given frames)) frames

-- The drop lines of a report are the packets that don't pass, each once and with the reason of its verdict.
abbrev pub DropLinesAreVerdicts : Type 0
DropLinesAreVerdicts = (app : Meaning) (script : List Stamped) (given : List Captured → List VersionedPacket) (frames : List Captured)
    → IsPermutation (dropped_of (verdicts_of app script given frames)) (drop_lines (map (record_of app) (records_of app script given frames)))

-- What is forwarded of a capture is a capture: read again it gives the packets that pass, in order, as they were captured, and has no
-- tail.
abbrev pub ForwardedIsACapture : Type 0
ForwardedIsACapture = (app : Meaning) (script : List Stamped) (given : List Captured → List VersionedPacket) (bytes : List ℕ) (f : Frames) → capture_of bytes ≡ Ok f
    → capture_of (streamed app script given Forward (take 24 bytes) f.frames) ≡ Ok (record { frames = passed app script given f.frames; ending = tail 0 })

-- The packets that `given` gives stand in the records of a run, each in one.
abbrev pub PacketsStandInOneRecord : Type 0
PacketsStandInOneRecord = (app : Meaning) (script : List Stamped) (given : List Captured → List VersionedPacket) (frames : List Captured)
    → IsPermutation (map (λ p. p.arrival) (given frames)) (joined (packets_after app (control_at app script) [] (given frames)))
