-- Not of the headline. A run of a lane: packets and control commands, in the order in which they came. A connection lives under the commands that
-- stand before its first packet, for its whole life.
use Rattle.std.specs.Prelude.{ℕ, ◌+◌, Option, Some, None, List, [], ◌∷◌, map}
use Rattle.app_api.specs.App.{Meaning}
use Rattle.forest_versions.specs.declared.command.Command.{Command}
use Rattle.forest_versions.specs.State.{ControlState, master}
use Rattle.lane_core.specs.Sight.{Moment, Arrival}
use Rattle.lane_core.specs.Records.{VersionedPacket, RecordSoFar, records, ended_at}

pub data LaneEvent : Type 0 where
  Gave : Command → LaneEvent
  Arrived : Arrival → LaneEvent

-- the commands among the events
abbrev pub commands_of : List LaneEvent → List Command
commands_of [] = []
commands_of (Gave c ∷ events) = c ∷ commands_of events
commands_of (Arrived a ∷ events) = commands_of events

-- the packets among them
abbrev pub packets_of : List LaneEvent → List Arrival
packets_of [] = []
packets_of (Gave c ∷ events) = packets_of events
packets_of (Arrived a ∷ events) = a ∷ packets_of events

-- the same, each with the number of commands before it; v stand before all
abbrev pub versioned_from : ℕ → List LaneEvent → List VersionedPacket
versioned_from v [] = []
versioned_from v (Gave c ∷ events) = versioned_from (v + 1) events
versioned_from v (Arrived a ∷ events) = record { version = v; arrival = a } ∷ versioned_from v events

-- what is in force at each version
abbrev pub control_of : Meaning → List LaneEvent → ℕ → ControlState
control_of app events = master app.presets (commands_of events)

-- the records of the run, which goes on
unfoldable pub lane_run : Meaning → List LaneEvent → List RecordSoFar
lane_run app events = records app (control_of app events) (versioned_from 0 events)

-- those of a run that goes on no more; `last` is the greatest moment of all packets of the capture, if there is any
abbrev pub ended_run : Meaning → List LaneEvent → Option Moment → List RecordSoFar
ended_run app events last = map (ended_at app (control_of app events) last) (lane_run app events)

-- the number of the last packet; `last` where there is none
abbrev pub last_number : Option ℕ → List LaneEvent → Option ℕ
last_number last [] = last
last_number last (Gave c ∷ events) = last_number last events
last_number last (Arrived a ∷ events) = last_number (Some a.number) events

abbrev pub newest_of : List LaneEvent → Option ℕ
newest_of events = last_number None events
