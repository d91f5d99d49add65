-- Not of the headline. What lanes come to that share the packets of a run. Each stands for its events: packets of its share, each behind the commands
-- that the lane had taken before it.
use Rattle.std.specs.Prelude.{◌≡◌, ◌<◌, ◌≤◌, ℕ, ◌==◌, List, [], ◌∷◌, length, get_or, filter}
use Rattle.std.specs.List.{All}
use mathlib.Core.List.{IsPrefix}
use Rattle.flow_table.specs.Key.{EndpointPair}
use Rattle.app_api.specs.App.{Meaning}
use Rattle.app_api.specs.declared.reaction.Verdict.{Verdict}
use Rattle.forest_versions.specs.declared.command.Command.{Command}
use Rattle.lane_core.specs.Sight.{Sight, Arrival}
use Rattle.lane_core.specs.Records.{VersionedPacket}
use Rattle.lane_core.specs.Run.{LaneEvent, Gave, Arrived, commands_of, versioned_from, lane_run, ended_run}
use Rattle.lane_core.specs.Lane.{with_event, next_verdict}
use Rattle.lane_core.specs.Shown.{weight}
use Rattle.run_outcome.specs.Greatest.{greatest}
use Rattle.lane_composition.specs.Lanes.{share}
use Rattle.run_outcome.specs.Lanes.{lane_of}
use Rattle.lane_composition.specs.Runs.{judged_part}
use Rattle.lane_composition.specs.Allowed.{arrivals_of, IsWithin}
use Rattle.run_outcome.specs.Whole.{run_under, verdicts_under}

-- the events of a lane; none where there is no such lane
abbrev pub events_at : List (List LaneEvent) → ℕ → List LaneEvent
events_at lanes l = get_or lanes l []

-- its packets, each with the number of commands before it
abbrev pub packets_at : List (List LaneEvent) → ℕ → List VersionedPacket
packets_at lanes l = versioned_from 0 (events_at lanes l)

-- The commands of each lane are the first ones of the script, and its packets the first ones of its share; each has at least the
-- commands up to its floor and at most those up to its ceiling before it.
pub record HaveRun (least most : ℕ → ℕ) (commands : List Command) (lane : EndpointPair → ℕ) (packets : List Arrival) (lanes : List (List LaneEvent)) : Type 0 where
  pub all : (sight : Sight) → lane_of lane sight < length lanes
  pub commands_are : (l : ℕ) → l < length lanes → IsPrefix (commands_of (events_at lanes l)) commands
  pub packets_are : (l : ℕ) → l < length lanes → IsPrefix (arrivals_of (packets_at lanes l)) (share lane l packets)
  pub within : (l : ℕ) → l < length lanes → All (λ p. IsWithin least most p.version p.arrival.number) (packets_at lanes l)

-- no lane has packets of its share left
abbrev pub HaveRunAll : (EndpointPair → ℕ) → List Arrival → List (List LaneEvent) → Type 0
HaveRunAll lane packets lanes = (l : ℕ) → l < length lanes → arrivals_of (packets_at lanes l) ≡ share lane l packets

-- ---- the packets of events in order, each with what became of it when it came; some events stand before

abbrev pub verdicts_behind : Meaning → List LaneEvent → List LaneEvent → List (Arrival × Verdict)
verdicts_behind app before [] = []
verdicts_behind app before (Gave c ∷ events) = verdicts_behind app (with_event (Gave c) before) events
verdicts_behind app before (Arrived a ∷ events) =
    (a, next_verdict app before a) ∷ verdicts_behind app (with_event (Arrived a) before) events

abbrev pub verdicts_in : Meaning → List LaneEvent → List (Arrival × Verdict)
verdicts_in app events = verdicts_behind app [] events

-- ---- lanes and the run

module _ (app : Meaning) (commands : List Command) (lane : EndpointPair → ℕ) (packets : List Arrival) (lanes : List (List LaneEvent)) (vs : List ℕ) where
  -- lanes that have run all: what each made is its part of the run under this list
  pub record AreOneRun : Type 0 where
    pub records : (l : ℕ) → ended_run app (events_at lanes l) (greatest packets)
        ≡ filter (λ r. lane_of lane r.first.sight == l) (run_under app commands vs packets)
    pub verdicts : (l : ℕ) → verdicts_in app (events_at lanes l) ≡ judged_part lane l (verdicts_under app commands vs packets)

  -- Lanes that have run fronts of their shares: none weighs more than the run, also at the end where it has run its whole share; and
  -- each lane's verdicts are the first ones of its part.
  pub record AreFrontsOfRun : Type 0 where
    pub weights : (l : ℕ) → weight (lane_run app (events_at lanes l)) ≤ weight (run_under app commands vs packets)
    pub weights_at_end : (l : ℕ) → arrivals_of (packets_at lanes l) ≡ share lane l packets
        → weight (ended_run app (events_at lanes l) (greatest packets)) ≤ weight (run_under app commands vs packets)
    pub verdicts : (l : ℕ) → IsPrefix (verdicts_in app (events_at lanes l)) (judged_part lane l (verdicts_under app commands vs packets))
