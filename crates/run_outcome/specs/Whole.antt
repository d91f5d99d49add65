-- One run over all packets, under the commands of a script and a list of versions: the j-th record lives under the j-th version. It
-- is the definition of a run, and knows of no lanes.
use Rattle.std.specs.Prelude.{◌≡◌, ◌≤◌, ◌==◌, ℕ, List, [], length, map, filter}
use Rattle.std.specs.List.{All}
use Rattle.flow_table.specs.Key.{EndpointPair}
use Rattle.app_api.specs.App.{Meaning}
use Rattle.app_api.specs.declared.reaction.Verdict.{Verdict}
use Rattle.forest_versions.specs.declared.command.Command.{Command}
use Rattle.forest_versions.specs.State.{ControlState, master}
use Rattle.lane_core.specs.Sight.{Arrival}
use Rattle.lane_core.specs.Records.{VersionedPacket, RecordSoFar, records, ended_at}
use Rattle.lane_core.specs.Verdicts.{verdicts_from}
use Rattle.lane_core.specs.Versions.{listed_from, versions_in}
use Rattle.run_outcome.specs.Greatest.{greatest}
use Rattle.run_outcome.specs.Lanes.{lane_of}
use Rattle.run_outcome.specs.Rising.{NeverFalls}

module _ (app : Meaning) (commands : List Command) where
  -- what is in force at each version: after the first so many commands
  abbrev pub in_force : ℕ → ControlState
  in_force = master app.presets commands

  -- each packet with the version of the record that it would begin
  abbrev pub packets_under : List ℕ → List Arrival → List VersionedPacket
  packets_under vs packets = listed_from app in_force vs [] packets

  -- the records while packets come
  abbrev pub run_so_far : List ℕ → List Arrival → List RecordSoFar
  run_so_far vs packets = records app in_force (packets_under vs packets)

  -- the records of the run; those that are open at its end may end by idleness then
  abbrev pub run_under : List ℕ → List Arrival → List RecordSoFar
  run_under vs packets = map (ended_at app in_force (greatest packets)) (run_so_far vs packets)

  -- its packets, each with what becomes of it
  abbrev pub verdicts_under : List ℕ → List Arrival → List (Arrival × Verdict)
  verdicts_under vs packets = verdicts_from app in_force [] (packets_under vs packets)

  -- It may have these versions: one for each record, from the floor of the record's first packet to its ceiling, and they never fall
  -- along the records whose first packets go to one lane.
  pub record IsAllowedRun (floor ceil : ℕ → ℕ) (lane : EndpointPair → ℕ) (packets : List Arrival) (vs : List ℕ) : Type 0 where
    pub count : length vs ≡ length (run_so_far vs packets)
    pub within : All (λ r. (floor r.first.number ≤ r.version) × (r.version ≤ ceil r.first.number)) (run_so_far vs packets)
    pub along : (l : ℕ) → NeverFalls (versions_in (filter (λ r. lane_of lane r.first.sight == l) (run_so_far vs packets)))
