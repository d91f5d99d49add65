-- Not of the headline. What a lane stands for, in terms of its parts.
use Rattle.std.specs.Prelude.{◌≡◌, ℕ, ◌<◌, Bool, true, Option, Some, None, List, [], ◌∷◌, ◌++◌, length, map, if◌then◌else◌, zero, suc, ⊤, Result, Err, IfOk, IfErr, OnOk}
use Rattle.app_api.specs.App.{Meaning}
use Rattle.app_api.specs.declared.reaction.Verdict.{Verdict}
use Rattle.shared_forest.specs.declared.store.ForestView.{Ghosts}
use Rattle.shared_forest.specs.Lists.{TreeLists}
use Rattle.shared_forest.specs.Listing.{listing}
use Rattle.event_trees.specs.declared.defs.EventDef.{EventDef}
use Rattle.event_trees.specs.Edit.{IsForestOf}
use Rattle.report_text.specs.declared.record.Record.{Record}
use Rattle.forest_versions.specs.Master.{StandsFor}
use Rattle.forest_versions.specs.State.{ControlState}
use Rattle.connection_core.specs.Trees.{InternsWithin}
use Rattle.lane_core.specs.declared.errors.LaneError.{LaneError}
use Rattle.lane_core.specs.declared.errors.LaneError.TheVariants.{Heavy}
use Rattle.lane_core.specs.declared.records.Records.{Records}
use Rattle.lane_core.specs.Sight.{Moment, Arrival}
use Rattle.lane_core.specs.Records.{RecordSoFar, verdict_on}
use Rattle.lane_core.specs.Run.{LaneEvent, Arrived, commands_of, control_of, lane_run, ended_run, newest_of}
use Rattle.lane_core.specs.Shown.{record_of, callbacks_of, drop_count, weight, alterations}
use Rattle.lane_core.specs.Packets.{KeepsSoFar}

-- one more packet, or one more command
abbrev pub with_event : LaneEvent → List LaneEvent → List LaneEvent
with_event event events = events ++ event ∷ []

-- what becomes of one more packet of a run
abbrev pub next_verdict : Meaning → List LaneEvent → Arrival → Verdict
next_verdict app events a =
    verdict_on app (control_of app events) (record { version = length (commands_of events); arrival = a }) (lane_run app events)

-- the records of a run weigh more than a lane may keep
abbrev pub IsHeavy : Meaning → List LaneEvent → Type 0
IsHeavy app events = 134217728 < weight (lane_run app events)

-- the records of a run that goes on no more weigh so much
abbrev pub IsHeavyAtEnd : Meaning → List LaneEvent → Option Moment → Type 0
IsHeavyAtEnd app events last = 134217728 < weight (ended_run app events last)

-- with one more packet they weigh so much
abbrev pub IsHeavyAt : Arrival → Meaning → List LaneEvent → Type 0
IsHeavyAt a app events = IsHeavy app (with_event (Arrived a) events)

-- they do once each connection has ended that was silent for too long by then
abbrev pub IsHeavyBy : Option Moment → Meaning → List LaneEvent → Type 0
IsHeavyBy last app events = IsHeavyAtEnd app events last

-- this holds of whatever events a lane stands for
abbrev pub ForEvents : (List LaneEvent → Type 0) → (List LaneEvent → Type 0) → Type 0
ForEvents stands holds = (events : List LaneEvent) → stands events → holds events

-- where a lane had failed, this holds of why it did
abbrev pub HadFailed : Option LaneError → (LaneError → Type 0) → Type 0
HadFailed failed holds = (e : LaneError) → failed ≡ Some e → holds e

-- one that hadn't failed went on by an event: whatever it stood for, it stands for with this behind it
module _ {L : Type 0} (failed : L → Option LaneError) (stands : L → List LaneEvent → Type 0) where
  abbrev pub GoesOn : L → L → LaneEvent → Type 0
  GoesOn old new event = failed old ≡ None → ForEvents (stands old) (λ events. stands new (with_event event events))

module _ {L : Type 0} (keeps : L → Bool) (app : L → Meaning) (stands : L → List LaneEvent → Type 0) (lane : L) where
  -- a lane keeps entries, and they are too heavy: `heavy` holds of whatever events it stands for
  abbrev pub KeepsTooMuch : (Meaning → List LaneEvent → Type 0) → Type 0
  KeepsTooMuch heavy = (keeps lane ≡ true) × ForEvents (stands lane) (heavy (app lane))

  -- if it keeps entries, they aren't
  abbrev pub KeepsWithin : (Meaning → List LaneEvent → Type 0) → Type 0
  KeepsWithin heavy = keeps lane ≡ true → ForEvents (stands lane) (λ events. heavy (app lane) events → ⊥)

-- the number of the last packet, from one more than it
abbrev pub newest_by : ℕ → Option ℕ
newest_by zero = None
newest_by (suc n) = Some n

-- what is found for a key: the tree of the private list of its open connection, and nothing where none is open
abbrev pub IsTreeFound : List EventDef → Option RecordSoFar → Option TreeLists → Type 0
IsTreeFound defs None None = ⊤
IsTreeFound defs None (Some tree) = ⊥
IsTreeFound defs (Some connection) None = ⊥
IsTreeFound defs (Some connection) (Some tree) = IsForestOf defs connection.history.active (listing tree)

-- a lane that hasn't failed keeps the records of these events; one that failed as heavy had records that weigh too much
pub record IsRun {F : Type 0} {store : Ghosts F} (app : Meaning) (keep : Bool) (lane : Records F store) (failed : Option LaneError) (events : List LaneEvent) : Type 0 where
  pub newest : newest_of events ≡ newest_by lane.next
  pub commands : failed ≡ None → StandsFor lane.master app.presets (commands_of events)
  pub records : failed ≡ None → KeepsSoFar keep lane (lane_run app events)
  pub dropped : failed ≡ None → lane.dropped ≡ drop_count (lane_run app events)
  pub heavy : failed ≡ Some Heavy → IsHeavy app events

-- a packet comes after these: its number is above that of the last
abbrev pub IsAfter : Option ℕ → ℕ → Type 0
IsAfter None number = ⊤
IsAfter (Some last) number = last < number

-- a record without its entries, where these aren't kept
abbrev pub shown : Bool → Meaning → RecordSoFar → Record
shown keep app so_far = record (record_of app so_far) { entries = if keep then so_far.history.entries else [] }

-- what a lane ends with, for these records
pub record IsEnd (keep : Bool) (app : Meaning) (so_far : List RecordSoFar) (records : List Record) (versions : List (ℕ × ℕ)) (callbacks drops : ℕ) : Type 0 where
  pub records_are : records ≡ map (shown keep app) so_far
  pub versions_are : versions ≡ map (λ r. (r.first.number, r.version)) so_far
  pub callbacks_are : callbacks ≡ callbacks_of so_far
  pub drops_are : drops ≡ drop_count so_far

-- ---- one packet more, in terms of what a recorder is seen as

module _ {L : Type 0} (stands_for : L → List LaneEvent → Type 0) (app_of : L → Meaning) (keeps_of : L → Bool) (in_force : L → ControlState)
    (given : L → ℕ) (last : L → Option ℕ) (failed : L → Option LaneError) (interns : L → Option ℕ) where
  -- a recorder takes a packet, or it fails for good, and what becomes of the packet is answered
  pub record TakesPacket (old new : L) (a : Arrival) (result : Result Verdict LaneError) : Type 0 where
    -- it stands for one event more
    pub stands : GoesOn failed stands_for old new (Arrived a)
    -- its first error is for good
    pub failed_before : HadFailed (failed old) (λ e. (result ≡ Err e) × (new ≡ old))
    pub ok : OnOk result (failed new ≡ None)
    pub fails : IfErr result (λ e. failed new ≡ Some e)
    -- the packet is passed on or dropped
    pub verdict : IfOk result (λ verdict. ForEvents (stands_for old) (λ events. verdict ≡ next_verdict (app_of old) events a))
    -- it fails as heavy only where it keeps entries and they weigh too much with this packet
    pub light : OnOk result (KeepsWithin keeps_of app_of stands_for old (IsHeavyAt a))
    pub heavy : failed old ≡ None → result ≡ Err Heavy → KeepsTooMuch keeps_of app_of stands_for old (IsHeavyAt a)
    -- its store interned at most once for each change that the packet makes of a connection's private list
    pub interned : failed old ≡ None → ForEvents (stands_for old) (λ events. InternsWithin (interns old) (interns new)
        (alterations (lane_run (app_of old) events)) (alterations (lane_run (app_of old) (with_event (Arrived a) events))))
    -- the packet is its last one, and all else is as it was
    pub newest : failed old ≡ None → last new ≡ Some a.number
    pub version : given new ≡ given old
    pub control : in_force new ≡ in_force old
    pub app : app_of new ≡ app_of old
    pub keeps : keeps_of new ≡ keeps_of old
