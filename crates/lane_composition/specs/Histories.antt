-- Not of the headline. The records of a lane, with their histories, by their packets.
use Rattle.std.specs.Prelude.{ℕ, Bool, false, if◌then◌else◌, List, [], ◌∷◌}
use Rattle.app_api.specs.declared.reaction.Verdict.{Verdict}
use Rattle.app_api.specs.App.{Meaning}
use Rattle.forest_versions.specs.declared.command.Command.{Command}
use Rattle.forest_versions.specs.State.{ControlState, master}
use Rattle.connection_core.specs.History.{History, is_over}
use Rattle.lane_core.specs.Sight.{Sight, Moment, Arrival}
use Rattle.lane_core.specs.Records.{RecordSoFar, is_past, history_after, first_history, verdict_after, first_verdict, ended_by_silence}
use Rattle.lane_composition.specs.Members.{Endings, Members}

-- a history with later packets, one after the other
unfoldable pub history_through : Meaning → ControlState → Sight → History → List Arrival → History
history_through app control opener h [] = h
history_through app control opener h (a ∷ rest) = history_through app control opener (history_after app control opener a h) rest

-- the history of a first packet and the later ones
abbrev pub history_of : Meaning → ControlState → Arrival → List Arrival → History
history_of app control first later = history_through app control first.sight (first_history app control first) later

-- the last of them
unfoldable pub last_of : Arrival → List Arrival → Arrival
last_of first [] = first
last_of first (a ∷ later) = last_of a later

-- ---- how connections end, by their version and their packets

-- whether one is over after these packets
abbrev pub is_over_after : Meaning → (ℕ → ControlState) → ℕ → List Arrival → Bool
is_over_after app control_at version [] = false
is_over_after app control_at version (first ∷ later) = is_over (history_of app (control_at version) first later)

-- whether at this moment more time has passed after these packets than the limit allows that is in force for it
abbrev pub is_silent_after : (ℕ → ControlState) → ℕ → List Arrival → Moment → Bool
is_silent_after control_at version [] now = false
is_silent_after control_at version (first ∷ later) now = is_past (control_at version).idle (last_of first later).moment now

abbrev pub over_by : Meaning → (ℕ → ControlState) → Endings
over_by app control_at = record { is_over = is_over_after app control_at; is_silent = is_silent_after control_at }

-- the same where what is in force is that after the first so many commands
abbrev pub over_under : Meaning → List Command → Endings
over_under app commands = over_by app (master app.presets commands)

-- what becomes of a packet after these
abbrev pub judge_by : Meaning → (ℕ → ControlState) → ℕ → List Arrival → Arrival → Verdict
judge_by app control_at version [] a = first_verdict app (control_at version) a
judge_by app control_at version (first ∷ later) a =
    verdict_after app (control_at version) first.sight a (history_of app (control_at version) first later)

-- ---- a record with its history: that of its packets, and then the callbacks of its end where silence has ended it

abbrev pub with_packets : Meaning → (ℕ → ControlState) → Members → RecordSoFar
with_packets app control_at m = record {
  first = m.first;
  version = m.version;
  last = last_of m.first m.later;
  ended = false;
  history = history_of app (control_at m.version) m.first m.later;
}

abbrev pub with_history : Meaning → (ℕ → ControlState) → Members → RecordSoFar
with_history app control_at m =
    if m.ended then ended_by_silence app control_at (with_packets app control_at m) else with_packets app control_at m
