-- Not of the headline. What lanes made of their packets, each with its own versions, and what one list of versions makes of all.
use Rattle.std.specs.Prelude.{◌≡◌, ℕ, ◌==◌, List, filter}
use Rattle.flow_table.specs.Key.{EndpointPair}
use Rattle.app_api.specs.declared.reaction.Verdict.{Verdict}
use Rattle.lane_core.specs.Sight.{Arrival}
use Rattle.lane_core.specs.Records.{VersionedPacket}
use Rattle.lane_composition.specs.Members.{Endings, records}
use Rattle.lane_composition.specs.Lanes.{part}
use Rattle.run_outcome.specs.Lanes.{lane_of}
use Rattle.lane_composition.specs.Named.{named, records_under}
use Rattle.lane_composition.specs.Judged.{judged}

-- the verdicts of a lane's packets
abbrev pub judged_part : (EndpointPair → ℕ) → ℕ → List (Arrival × Verdict) → List (Arrival × Verdict)
judged_part lane l js = filter (λ j. lane_of lane j.0.sight == l) js

-- under this list of versions, each lane's part of all records, and of all verdicts, is what the lane made
pub record AreRuns (endings : Endings) (lane : EndpointPair → ℕ) (packets : List Arrival) (parts : ℕ → List VersionedPacket) (vs : List ℕ) : Type 0 where
  pub parts_are : (l : ℕ) → part lane l (records_under endings vs packets) ≡ records endings (parts l)
  pub verdicts_are : (judge : ℕ → List Arrival → Arrival → Verdict) (l : ℕ) → judged_part lane l (judged endings judge (named endings vs packets)) ≡ judged endings judge (parts l)
