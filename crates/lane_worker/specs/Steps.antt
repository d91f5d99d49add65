-- Only for proofs. What a worker makes of the packets and places that it takes: the steps of its lane.
use Rattle.std.specs.Prelude.{ℕ, ◌+◌, ◌≤◌, min, Bool, true, ◌&&◌, if◌then◌else◌, nat_lt, nat_le, Option, Some, None, List, [], ◌∷◌, ◌++◌, length, map, ⊤}
use Rattle.app_api.specs.App.{Meaning}
use Rattle.forest_versions.specs.declared.command.Command.{Command}
use Rattle.lane_rings.specs.declared.items.Packet.{Packet}
use Rattle.lane_rings.specs.declared.items.Answer.{Answer}
use Rattle.lane_rings.specs.Judging.{answer_to}
use Rattle.lane_core.specs.Sight.{arrival_of}
use Rattle.lane_core.specs.Run.{LaneEvent, Gave, Arrived}
use Rattle.lane_core.specs.Lane.{next_verdict, with_event}

-- a command of the script that the lane took, or a packet that was handed to it
pub data Step : Type 0 where
  Took : Command → Step
  Handed : Packet → Step

-- a packet that the worker took, and the commands whose places it took for it
pub record Turn : Type 0 where
  pub packet : Packet
  pub commands : List Command

-- whether an index is above the last one
abbrev pub is_behind : Option ℕ → ℕ → Bool
is_behind None index = true
is_behind (Some last) index = nat_lt last index

-- whether a packet fits: its index is above those that the lane was handed before and below 1,048,576, its floor is at most its
-- ceiling, its ceiling at most the number of the script's commands, and the lane's version at most its ceiling
abbrev pub fits : ℕ → Option ℕ → ℕ → Packet → Bool
fits count last version p =
    is_behind last p.index && nat_lt p.index 1048576 && nat_le p.floor p.ceil && nat_le p.ceil count && nat_le version p.ceil

-- the steps of these turns: a packet that fits is handed over behind its commands, and one that doesn't is let go. The script has
-- `count` commands; before, the lane was at `version`, and `last` was the index of its last packet
abbrev pub steps_of : ℕ → Option ℕ → ℕ → List Turn → List Step
steps_of count last version [] = []
steps_of count last version (t ∷ turns) =
    if fits count last version t.packet
    then map Took t.commands ++ Handed t.packet ∷ steps_of count (Some t.packet.index) (version + length t.commands) turns
    else steps_of count last version turns

-- what a step is to the lane
abbrev pub event_of : Step → LaneEvent
event_of (Took c) = Gave c
event_of (Handed p) = Arrived (arrival_of p.index p.frame)

abbrev pub events_of : List Step → List LaneEvent
events_of steps = map event_of steps

-- a packet may be handed over at this version: it is at least the floor and at most the ceiling, and at least the lesser of the
-- ceiling and of `least`
pub record IsWithin (least version : ℕ) (p : Packet) : Type 0 where
  pub floor : p.floor ≤ version
  pub ceil : version ≤ p.ceil
  pub known : min p.ceil least ≤ version

-- so may each packet of these steps, where the lane was at `version` before them
abbrev pub AreWithin : ℕ → ℕ → List Step → Type 0
AreWithin least version [] = ⊤
AreWithin least version (Took c ∷ steps) = AreWithin least (version + 1) steps
AreWithin least version (Handed p ∷ steps) = IsWithin least version p × AreWithin least version steps

-- the answers to the packets of these steps, one each and in order, where the lane stood for `events` before them
abbrev pub answers_of : Meaning → List LaneEvent → List Step → List Answer
answers_of app events [] = []
answers_of app events (Took c ∷ steps) = answers_of app (with_event (Gave c) events) steps
answers_of app events (Handed p ∷ steps) =
    answer_to p (next_verdict app events (arrival_of p.index p.frame)) ∷ answers_of app (with_event (Arrived (arrival_of p.index p.frame)) events) steps
