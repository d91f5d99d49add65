-- Not of the headline. Laws on the records of packets, in the subject's own words.
use Rattle.std.specs.Prelude.{◌≡◌, ◌≤◌, ◌↔◌, ℕ, Bool, IsTrue, if◌then◌else◌, Option, Some, None, List, [], ◌∷◌, ◌++◌, filter, length, map}
use Rattle.std.specs.List.{list_any, list_all}
use Rattle.tcp_emulation.specs.declared.segment.Side.{Side}
use Rattle.native_filters.specs.declared.facts.Hook.TheVariants.{Snd, Rcv}
use Rattle.app_api.specs.Log.{log}
use Rattle.app_api.specs.declared.entry.Entry.{Entry}
use Rattle.app_api.specs.declared.entry.Seen.TheVariants.{Nothing}
use Rattle.app_api.specs.Events.{PKT_IN, ORPHAN}
use Rattle.app_api.specs.App.{Meaning, IsLawful}
use Rattle.app_api.specs.Numbers.{rise_from}
use Rattle.app_api.specs.declared.registration.Reg.{Reg}
use Rattle.report_text.specs.Tidy.{is_event, tidy}
use Rattle.flow_table.specs.Key.{EndpointPair}
use Rattle.forest_versions.specs.State.{ControlState, start, master, active as first_active}
use Rattle.connection_core.specs.History.{History, followed, orphan_history}
use Rattle.forest_versions.specs.declared.command.Command.{Command}
use Rattle.lane_core.specs.Sight.{Segment, Sight, Tcp, Other, Moment, Arrival, key_of_segment}
use Rattle.lane_core.specs.Run.{LaneEvent, Gave, Arrived, commands_of, packets_of, versioned_from, control_of, lane_run, ended_run, newest_of}
use Rattle.lane_core.specs.Lane.{IsHeavy, IsHeavyAtEnd, next_verdict, with_event}
use Rattle.lane_core.specs.Shown.{record_of, weight}
use Rattle.lane_core.specs.Records.{VersionedPacket, RecordSoFar, belongs_to, started_by, continued_by, ended_before, ended_at, added, verdict_on, records, orphan_raises_of}

module _ (app : Meaning) (control_at : ℕ → ControlState) where
  -- whether a record takes a packet: it belongs to it, and the record hasn't ended before it
  abbrev pub takes : VersionedPacket → RecordSoFar → Bool
  takes p so_far = belongs_to p.arrival.sight (ended_before app control_at p so_far)

  -- a record after later packets: it takes those that belong to it while it is open
  unfoldable pub continued_through : RecordSoFar → List VersionedPacket → RecordSoFar
  continued_through so_far [] = so_far
  continued_through so_far (p ∷ ps) =
      let now = ended_before app control_at p so_far in
      if takes p so_far then continued_through (continued_by app control_at p.arrival now) ps else continued_through now ps

  -- the records that packets start: each one that belongs to no record so far starts one
  unfoldable pub started_after : List RecordSoFar → List VersionedPacket → List RecordSoFar
  started_after so_far [] = []
  started_after so_far (p ∷ ps) =
      if list_any (takes p) so_far then started_after (added app control_at p so_far) ps
      else continued_through (started_by app control_at p) ps ∷ started_after (added app control_at p so_far) ps

-- Each first packet starts a record, which takes the later packets of its key while it is open. A packet of its key that comes after
-- too long a silence ends it.
abbrev pub RecordsGrow : Type 0
RecordsGrow = (app : Meaning) (control_at : ℕ → ControlState) (ps : List VersionedPacket)
    → records app control_at ps ≡ started_after app control_at [] ps

-- a set of packets by their keys; `others` says whether it has the packets without a key
abbrev pub has_key : (EndpointPair → Bool) → Bool → Sight → Bool
has_key keys others (Tcp segment) = keys (key_of_segment segment)
has_key keys others (Other class) = others

-- The records of the packets of a set of keys are the records whose first packet has such a key, while packets come and at the end.
-- `last` is the greatest moment of all packets, also of those of other keys.
pub record RecordsByKey : Type 0 where
  pub so_far : (app : Meaning) (control_at : ℕ → ControlState) (keys : EndpointPair → Bool) (others : Bool) (ps : List VersionedPacket)
      → records app control_at (filter (λ p. has_key keys others p.arrival.sight) ps)
      ≡ filter (λ r. has_key keys others r.first.sight) (records app control_at ps)
  pub at_end : (app : Meaning) (control_at : ℕ → ControlState) (keys : EndpointPair → Bool) (others : Bool) (last : Option Moment) (ps : List VersionedPacket)
      → map (ended_at app control_at last) (records app control_at (filter (λ p. has_key keys others p.arrival.sight) ps))
      ≡ filter (λ r. has_key keys others r.first.sight) (map (ended_at app control_at last) (records app control_at ps))

-- the callbacks of the log application's presets: 1 at a packet's sender, 2 at its receiver, 3 for an orphan
abbrev pub at_sender : ℕ → Entry
at_sender number = record { index = number; hook = Snd; event = PKT_IN; reg = 1; seen = Nothing }

abbrev pub at_receiver : ℕ → Entry
at_receiver number = record { index = number; hook = Rcv; event = PKT_IN; reg = 2; seen = Nothing }

abbrev pub at_orphan : ℕ → Entry
at_orphan number = record { index = number; hook = Snd; event = ORPHAN; reg = 3; seen = Nothing }

-- where these are on, each packet of a connection is called at its sender and then at its receiver, each once, and they stay on;
-- and each packet of no connection is called once
pub record PresetsAreCalled : Type 0 where
  pub connection : (number : ℕ) (side : Side) (segment : Segment) (h : History) → h.active ≡ first_active (start log.presets)
      → (followed log (start log.presets) number side segment.head segment.scale segment.payload h).entries
      ≡ h.entries ++ at_sender number ∷ at_receiver number ∷ []
  pub stay : (number : ℕ) (side : Side) (segment : Segment) (h : History) → h.active ≡ first_active (start log.presets)
      → (followed log (start log.presets) number side segment.head segment.scale segment.payload h).active ≡ h.active
  pub orphan : (number : ℕ) (sight : Sight)
      → (orphan_history log (start log.presets) number (orphan_raises_of sight)).entries ≡ at_orphan number ∷ []

-- ---- the records of a lawful application

-- the events of the registrations are user-defined ones, or built-in ones with a name
abbrev pub AreEvents : List Reg → Type 0
AreEvents regs = IsTrue (list_all (λ r. is_event r.event) regs)

-- numbers of packets, which rise and are at least this
abbrev pub rise : ℕ → List VersionedPacket → Bool
rise least ps = rise_from least (map (λ p. p.arrival.number) ps)

-- packets whose numbers rise make records that a report may have
abbrev pub RecordsAreTidy : Type 0
RecordsAreTidy = (app : Meaning) (control_at : ℕ → ControlState) (last : Option Moment) (ps : List VersionedPacket) → IsLawful app
    → ((v : ℕ) → AreEvents (control_at v).regs) → IsTrue (rise 0 ps)
    → IsTrue (tidy (map (record_of app) (map (ended_at app control_at last) (records app control_at ps))))

-- neither one more packet nor the end makes the records weigh less
pub record WeightNeverFalls : Type 0 where
  pub packet : (app : Meaning) (control_at : ℕ → ControlState) (p : VersionedPacket) (so_far : List RecordSoFar)
      → weight so_far ≤ weight (added app control_at p so_far)
  pub at_end : (app : Meaning) (control_at : ℕ → ControlState) (last : Option Moment) (so_far : List RecordSoFar)
      → weight so_far ≤ weight (map (ended_at app control_at last) so_far)

-- ---- runs

-- one packet more, under the commands before it
abbrev pub PacketIsAdded : Type 0
PacketIsAdded = (app : Meaning) (events : List LaneEvent) (a : Arrival)
    → lane_run app (with_event (Arrived a) events) ≡ added app (control_of app events) (record { version = length (commands_of events); arrival = a }) (lane_run app events)

-- one command more changes no record
abbrev pub CommandChangesNone : Type 0
CommandChangesNone = (app : Meaning) (events : List LaneEvent) (c : Command) → lane_run app (with_event (Gave c) events) ≡ lane_run app events

-- a run that weighs too much stays so
pub record HeavyStays : Type 0 where
  pub one_more : (app : Meaning) (events : List LaneEvent) (event : LaneEvent) → IsHeavy app events → IsHeavy app (with_event event events)
  pub at_end : (app : Meaning) (events : List LaneEvent) (last : Option Moment) → IsHeavy app events → IsHeavyAtEnd app events last

-- One event more: a command stands behind the commands of the run, a packet behind its packets, with the version of the
-- commands before it.
pub record OneEventMore : Type 0 where
  pub command : (events : List LaneEvent) (c : Command) → (commands_of (with_event (Gave c) events) ≡ commands_of events ++ c ∷ [])
      × (versioned_from 0 (with_event (Gave c) events) ≡ versioned_from 0 events)
  pub packet : (events : List LaneEvent) (a : Arrival) → (commands_of (with_event (Arrived a) events) ≡ commands_of events)
      × (versioned_from 0 (with_event (Arrived a) events) ≡ versioned_from 0 events ++ record { version = length (commands_of events); arrival = a } ∷ [])

-- The number of a run's last packet: none exactly where the run has no packet; a packet's own once that packet comes, whatever
-- came before; and one command more changes nothing.
pub record NewestIsTheLast : Type 0 where
  pub none : (events : List LaneEvent) → (newest_of events ≡ None) ↔ (packets_of events ≡ [])
  pub packet : (events : List LaneEvent) (a : Arrival) → newest_of (with_event (Arrived a) events) ≡ Some a.number
  pub command : (events : List LaneEvent) (c : Command) → newest_of (with_event (Gave c) events) ≡ newest_of events

-- Commands behind those of a run change neither its records, while it goes on and at its end, nor what becomes of one more packet.
pub record LaterCommandsChangeNone : Type 0 where
  pub at_end : (app : Meaning) (events : List LaneEvent) (last : Option Moment) (more : List Command)
      → ended_run app events last
      ≡ map (ended_at app (master app.presets (commands_of events ++ more)) last) (records app (master app.presets (commands_of events ++ more)) (versioned_from 0 events))
  pub records : (app : Meaning) (events : List LaneEvent) (more : List Command)
      → lane_run app events ≡ records app (master app.presets (commands_of events ++ more)) (versioned_from 0 events)
  pub verdicts : (app : Meaning) (events : List LaneEvent) (a : Arrival) (more : List Command)
      → next_verdict app events a
      ≡ verdict_on app (master app.presets (commands_of events ++ more)) (record { version = length (commands_of events); arrival = a }) (lane_run app events)

-- one packet more at the end is added to the records
abbrev pub LastPacketIsAdded : Type 0
LastPacketIsAdded = (app : Meaning) (control_at : ℕ → ControlState) (ps : List VersionedPacket) (p : VersionedPacket)
    → records app control_at (ps ++ p ∷ []) ≡ added app control_at p (records app control_at ps)
