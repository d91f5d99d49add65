-- Not of the headline. What the lanes of workers came to, from their packets to the end of the whole run.
use Rattle.std.specs.Prelude.{◌≡◌, ◌⊎◌, ℕ, ◌<◌, Bool, true, List, length, get_or, Option, Some, None, Result, Ok, Err, ⊤}
use Rattle.app_api.specs.App.{Meaning}
use Rattle.pcap_source.specs.Captured.{Captured}
use Rattle.flow_table.specs.Key.{EndpointPair}
use Rattle.flow_table.specs.Lane.{lane_of_key}
use Rattle.control_script.specs.declared.stamped.Stamped.{Stamped}
use Rattle.control_script.specs.Order.{commands_of}
use Rattle.control_script.specs.Versions.{floor, ceil}
use Rattle.lane_core.specs.declared.end.KeptEnd.{KeptEnd}
use Rattle.lane_core.specs.declared.errors.LaneError.TheVariants.{Heavy as TooHeavy}
use Rattle.lane_core.specs.declared.recorder.Recorder.{Ghosts}
use Rattle.lane_core.specs.Sight.{Moment, arrivals}
use Rattle.lane_core.specs.Run.{LaneEvent, ended_run}
use Rattle.lane_core.specs.KeptEnd.{IsKeptEnd, shown_as}
use Rattle.lane_core.specs.Lane.{IsHeavy, IsHeavyAtEnd}
use Rattle.lane_join.specs.declared.ends.Joined.{Joined}
use Rattle.lane_composition.specs.Allowed.{arrivals_of}
use Rattle.lane_composition.specs.Ends.{IsJoined}
use Rattle.lane_composition.specs.Lanes.{share}
use Rattle.lane_composition.specs.Taken.{packets_at, events_at, HaveRun}
use Rattle.lane_worker.specs.declared.worker.Worker.{Worker}
use Rattle.worker_pool.specs.declared.job.KeptLanes.{KeptLanes}
use Rattle.worker_pool.specs.declared.job.PoolError.{PoolError}
use Rattle.worker_pool.specs.declared.job.PoolError.TheVariants.{TooLong, TooMany, ReadFault, WriteFault, Heavy, NoMemory}
use Rattle.worker_pool.specs.Run.{as_shown, IsWhole, IsTooHeavy}
use Rattle.run_outcome.specs.Allowed.{MayHave, run_of}

-- which of so many lanes has a key
abbrev pub by_key : ℕ → EndpointPair → ℕ
by_key lanes key = lane_of_key key lanes

module _ {L : Type 0} (g : Ghosts L) (keep : Bool) (app : Meaning) where
  -- The lanes of these workers share the packets of these frames, each by these events. Where a lane failed, its events have only the
  -- first packets of its share, and where it failed as heavy, it keeps entries and its records weigh too much.
  pub record CameTo (script : List Stamped) (frames : List Captured) (workers : List (Worker L)) (lanes : List (List LaneEvent)) : Type 0 where
    pub count : length lanes ≡ length workers
    pub run : HaveRun (floor script) (ceil script) (commands_of script) (by_key (length workers)) (arrivals 0 frames) lanes
    pub app_is : (k : ℕ) (w : Worker L) → k < length workers → g.app (get_or workers k w).lane ≡ app
    pub keeps : (k : ℕ) (w : Worker L) → k < length workers → g.keeps (get_or workers k w).lane ≡ keep
    pub stands : (k : ℕ) (w : Worker L) → k < length workers → g.stands (get_or workers k w).lane (events_at lanes k)
    pub whole : (k : ℕ) (w : Worker L) → k < length workers → g.failed (get_or workers k w).lane ≡ None
        → arrivals_of (packets_at lanes k) ≡ share (by_key (length workers)) k (arrivals 0 frames)
    pub heavy : (k : ℕ) (w : Worker L) → k < length workers → g.failed (get_or workers k w).lane ≡ Some TooHeavy → (keep ≡ true) × IsHeavy app (events_at lanes k)

-- `last` is the greatest moment of all packets
module _ {L : Type 0} (g : Ghosts L) (last : Option Moment) where
  -- how a worker's lane ends: it hasn't failed, and its end is that of its run
  pub record HasEnded (worker : Worker L) (end : KeptEnd) : Type 0 where
    pub good : g.failed worker.lane ≡ None
    pub end_is : (events : List LaneEvent) → g.stands worker.lane events
        → IsKeptEnd (g.keeps worker.lane) (g.app worker.lane) (ended_run (g.app worker.lane) events last) end

  -- a worker's lane that hasn't failed keeps entries, and its records weigh too much at the end
  pub record EndsHeavy (worker : Worker L) : Type 0 where
    pub good : g.failed worker.lane ≡ None
    pub keeps : g.keeps worker.lane ≡ true
    pub heavy : (events : List LaneEvent) → g.stands worker.lane events → IsHeavyAtEnd (g.app worker.lane) events last

  -- why a worker's lane has no end: memory was refused, or it is heavy
  abbrev pub IsCause : Worker L → PoolError → Type 0
  IsCause worker Heavy = (g.failed worker.lane ≡ Some TooHeavy) ⊎ EndsHeavy worker
  IsCause worker NoMemory = ⊤
  IsCause worker ReadFault = ⊥
  IsCause worker WriteFault = ⊥
  IsCause worker (TooLong offset) = ⊥
  IsCause worker (TooMany offset) = ⊥

  -- what a worker's lane comes to at the end
  abbrev pub ComesTo : Worker L → Result KeptEnd PoolError → Type 0
  ComesTo worker (Ok end) = HasEnded worker end
  ComesTo worker (Err e) = IsCause worker e

  -- what each worker's lane comes to, in order
  pub record HaveCome (workers : List (Worker L)) (came : List (Result KeptEnd PoolError)) : Type 0 where
    pub count : length workers ≡ length came
    pub each : (k : ℕ) (w : Worker L) (d : Result KeptEnd PoolError) → k < length workers → ComesTo (get_or workers k w) (get_or came k d)

  -- how the lanes of workers end
  pub record AreEnded (workers : List (Worker L)) (ends : List KeptEnd) : Type 0 where
    pub count : length workers ≡ length ends
    pub each : (k : ℕ) (w : Worker L) (d : KeptEnd) → k < length workers → HasEnded (get_or workers k w) (get_or ends k d)

module _ (app : Meaning) (script : List Stamped) (lanes : ℕ) (frames : List Captured) where
  -- The ends of lanes that keep entries, or don't, are those of one run over these frames, joined; or they keep entries, and such a run
  -- weighs too much.
  abbrev pub IsJoinedRun : Bool → Result Joined PoolError → Type 0
  IsJoinedRun keep (Ok joined) = (vs : List ℕ) × MayHave app script lanes frames vs × IsJoined keep app (run_of app script vs frames) (shown_as app joined.records) joined.callbacks joined.weight joined.drops
  IsJoinedRun keep (Err Heavy) = (keep ≡ true) × IsTooHeavy app script lanes frames
  IsJoinedRun keep (Err NoMemory) = ⊤
  IsJoinedRun keep (Err ReadFault) = ⊥
  IsJoinedRun keep (Err WriteFault) = ⊥
  IsJoinedRun keep (Err (TooLong offset)) = ⊥
  IsJoinedRun keep (Err (TooMany offset)) = ⊥

  -- how a run over these frames and such a tail ends
  abbrev pub Concludes : ℕ → Result KeptLanes PoolError → Type 0
  Concludes tail (Ok end) = IsWhole app script lanes frames tail (as_shown app end)
  Concludes tail (Err Heavy) = IsTooHeavy app script lanes frames
  Concludes tail (Err NoMemory) = ⊤
  Concludes tail (Err ReadFault) = ⊥
  Concludes tail (Err WriteFault) = ⊥
  Concludes tail (Err (TooLong offset)) = ⊥
  Concludes tail (Err (TooMany offset)) = ⊥
