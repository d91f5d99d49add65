-- What is left of captured packets is the records of those that pass; and the drop lines of a report are the drops of its records.
use Rattle.std.proofs.Common.{◌≡◌, ℕ, List, [], ◌∷◌, ◌++◌, map, take, refl, ap, subst, ◌∙◌, append_assoc, Ok}
use Rattle.std.specs.Prelude.{if◌then◌else◌}
use Rattle.std.specs.List.Sorted.{IsPermutation}
use Rattle.app_api.specs.App.{Meaning}
use Rattle.app_api.specs.declared.reaction.Verdict.{Verdict}
use Rattle.app_api.specs.declared.reaction.Verdict.TheVariants.{Pass, Drop}
use Rattle.pcap_source.specs.Captured.{Captured}
use Rattle.pcap_source.specs.Capture.{Frames, tail, capture_of}
use Rattle.pcap_source.specs.Laws.{SomeRecordsAreACapture, marked, written}
use Rattle.control_script.specs.declared.stamped.Stamped.{Stamped}
use Rattle.run_outcome.specs.Forwarded.{bytes_under}
use Rattle.run_outcome.specs.Forwarded.{left_by_all}
use Rattle.lane_core.specs.Sight.{Arrival, arrivals}
use Rattle.lane_core.specs.Records.{VersionedPacket, RecordSoFar}
use Rattle.lane_core.specs.Shown.{record_of}
use Rattle.lane_core.specs.Verdicts.{dropped_of}
use Rattle.lane_core.specs.Once.{DropsAreVerdicts, drops_in}
use Rattle.run_outcome.specs.Greatest.{greatest}
use Rattle.capture_replay.specs.declared.output.Output.TheVariants.{Forward}
use Rattle.capture_replay.specs.Records.{control_at, records_of}
use Rattle.capture_replay.specs.Outcome.{streamed}
use Rattle.capture_replay.specs.Passed.{passes, passed, drop_lines, verdicts_of}

-- ---- drop lines

same_lines : (app : Meaning) (records : List RecordSoFar) → drops_in records ≡ drop_lines (map (record_of app) records)
unfolding drops_in drop_lines
same_lines app [] = refl
same_lines app (so_far ∷ others) = ap (λ ds. so_far.history.drops ++ ds) (same_lines app others)

pub lines_are_verdicts : DropsAreVerdicts → (app : Meaning) (script : List Stamped) (given : List Captured → List VersionedPacket) (frames : List Captured)
    → IsPermutation (dropped_of (verdicts_of app script given frames)) (drop_lines (map (record_of app) (records_of app script given frames)))
lines_are_verdicts law app script given frames =
    subst (IsPermutation (dropped_of (verdicts_of app script given frames))) (same_lines app (records_of app script given frames))
    (law.at_end app (control_at app script) (greatest (arrivals 0 frames)) (given frames))

-- ---- what is forwarded

left_here : (v : Verdict) (frame : Captured) (rest : List Captured)
    → bytes_under v frame ++ written rest ≡ written (if passes v then frame ∷ rest else rest)
left_here Pass frame rest = append_assoc frame.head frame.bytes (written rest)
left_here (Drop reason) frame rest = refl

left_as_written : (js : List (Arrival × Verdict)) (frames : List Captured) → left_by_all js frames ≡ written (marked (map (λ j. passes j.1) js) frames)
unfolding left_by_all marked
left_as_written [] frames = refl
left_as_written (j ∷ js) [] = refl
left_as_written (j ∷ js) (frame ∷ frames) =
    ap (λ l. bytes_under j.1 frame ++ l) (left_as_written js frames) ∙ left_here j.1 frame (marked (map (λ k. passes k.1) js) frames)

pub forwarded_again : SomeRecordsAreACapture → (app : Meaning) (script : List Stamped) (given : List Captured → List VersionedPacket) (bytes : List ℕ) (f : Frames)
    → capture_of bytes ≡ Ok f
    → capture_of (streamed app script given Forward (take 24 bytes) f.frames) ≡ Ok (record { frames = passed app script given f.frames; ending = tail 0 })
forwarded_again law app script given bytes f are =
    ap (λ l. capture_of (take 24 bytes ++ l)) (left_as_written (verdicts_of app script given f.frames) f.frames)
    ∙ law bytes f (map (λ j. passes j.1) (verdicts_of app script given f.frames)) are
