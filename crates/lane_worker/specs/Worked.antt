-- Not of the headline. What a worker did between two moments. `L` is its lane, and `g` says what the lane stands for.
use Rattle.std.specs.Prelude.{◌≡◌, ◌≢◌, ℕ, ◌+◌, true, Option, Some, None, List, [], ◌++◌, length, map, take, drop, ⊤}
use mathlib.Core.List.{IsPrefix}
use Rattle.forest_versions.specs.declared.command.Command.{Command}
use Rattle.forest_versions.specs.State.{control}
use Rattle.lane_rings.specs.declared.items.Packet.{Packet}
use Rattle.lane_rings.specs.declared.items.Answer.{Answer}
use Rattle.lane_rings.specs.declared.items.AnswerBatch.{AnswerBatch}
use Rattle.lane_rings.specs.declared.items.Batch.{Batch}
use Rattle.lane_rings.specs.declared.ring.RingTx.{RingTx}
use Rattle.lane_rings.specs.declared.ring.RingRx.{RingRx}
use Rattle.lane_rings.specs.Batch.{packets_in}
use Rattle.lane_rings.specs.Answers.{answers_in}
use Rattle.lane_rings.specs.Ring.{sent, taken, known, SameTx, SameRx}
use Rattle.lane_core.specs.declared.errors.LaneError.TheVariants.{Heavy}
use Rattle.lane_core.specs.declared.recorder.Recorder.{Ghosts}
use Rattle.lane_core.specs.Run.{LaneEvent, commands_of, last_number}
use Rattle.lane_core.specs.Lane.{IsHeavy}
use Rattle.lane_worker.specs.declared.worker.Worker.{Worker}
use Rattle.lane_worker.specs.Steps.{Step, Turn, steps_of, events_of, AreWithin, answers_of}

-- these items came out of a ring; all that was known to be in it before came, or is still known
pub record Takes {T : Type 0} (a b : RingRx T) (items : List T) : Type 0 where
  pub ring : SameRx a b
  pub gone : taken b ≡ taken a ++ items
  pub order : IsPrefix (known a) (items ++ known b)

-- the sending end of the same ring, or none as before
abbrev pub SameAnswers : Option (RingTx AnswerBatch) → Option (RingTx AnswerBatch) → Type 0
SameAnswers None None = ⊤
SameAnswers (Some a) (Some b) = SameTx a b
SameAnswers None (Some b) = ⊥
SameAnswers (Some a) None = ⊥

-- these answers were sent in batches, where there is a ring for them
abbrev pub Sends : Option (RingTx AnswerBatch) → Option (RingTx AnswerBatch) → List Answer → Type 0
Sends None None answers = ⊤
Sends (Some a) (Some b) answers = SameTx a b × (answers_in (sent b) ≡ answers_in (sent a) ++ answers)
Sends None (Some b) answers = ⊥
Sends (Some a) None answers = ⊥

module _ {L : Type 0} where
  -- the commands that a worker's lane has, and the places that are known to be in its ring
  abbrev pub at_hand : Ghosts L → Worker L → ℕ
  at_hand g w = g.given w.lane + length (known w.commands)

  module _ (g : Ghosts L) (script : List Command) where
    -- a lane took the first commands of the script, as many as its ring gave places: it stands for events with these commands, its
    -- version is their number, and what they make is in force
    pub record IsReady (lane : L) (ring : RingRx ℕ) : Type 0 where
      pub events : List LaneEvent
      pub stands : g.stands lane events
      pub commands : commands_of events ≡ take (length (taken ring)) script
      pub version : g.given lane ≡ length (taken ring)
      pub in_force : g.control lane ≡ control (g.app lane).presets (take (length (taken ring)) script)

    -- A lane went on from a to b by these steps: those of `done` went well, and at that of `bad`, if there is one, it failed. `turns`
    -- are the packets that were taken, each with the commands for it, and `least` the commands that were known before
    pub record WentOn (least : ℕ) (turns : List Turn) (a b : L) (done bad : List Step) : Type 0 where
      pub stands : (events : List LaneEvent) → g.stands a events → g.stands b (events ++ events_of (done ++ bad))
      pub commands : IsPrefix (commands_of (events_of (done ++ bad))) (drop (g.given a) script)
      pub within : AreWithin least (g.given a) (done ++ bad)
      pub newest : g.last b ≡ last_number (g.last a) (events_of (done ++ bad))
      -- a lane that has not failed took all steps of the turns
      pub good : g.failed b ≡ None → bad ≡ []
      pub whole : g.failed b ≡ None → done ≡ steps_of (length script) (g.last a) (g.given a) turns
      pub version : g.failed b ≡ None → g.given b ≡ g.given a + length (commands_of (events_of done))
      -- one that failed took the first of them, up to the one at which it failed
      pub one : g.failed b ≢ None → length bad ≡ 1
      pub front : g.failed b ≢ None → IsPrefix (done ++ bad) (steps_of (length script) (g.last a) (g.given a) turns)
      -- it failed as heavy only where it keeps entries and its records weigh too much
      pub keeping : g.failed b ≡ Some Heavy → g.keeps a ≡ true
      pub heavy : g.failed b ≡ Some Heavy → (events : List LaneEvent) → g.stands a events → IsHeavy (g.app a) (events ++ events_of (done ++ bad))

    -- a worker whose lane had not failed handed these packets to it, as far as they fit and until it failed, and gave it a command for
    -- each of these places; P holds of the answers to these packets
    pub record RanSo (a b : Worker L) (packets : List Packet) (places : List ℕ) (P : List Answer → Type 0) : Type 0 where
      pub turns : List Turn
      pub done : List Step
      pub bad : List Step
      pub of_packets : map (λ t. t.packet) turns ≡ packets
      pub went : WentOn (at_hand g a) turns a.lane b.lane done bad
      pub of_places : g.failed b.lane ≡ None → length (commands_of (events_of done)) ≡ length places
      pub answers : (events : List LaneEvent) → g.stands a.lane events → P (answers_of (g.app a.lane) events done)

    -- the same, where the answers were sent
    abbrev pub Ran : Worker L → Worker L → List Packet → List ℕ → Type 0
    Ran a b packets places = RanSo a b packets places (Sends a.answers b.answers)

    -- what a worker did from a to b: it took these batches and places out of its rings. A lane that had failed stays as it was, and no
    -- answer is sent; any other ran
    pub record Worked (a b : Worker L) : Type 0 where
      pub batches : List Batch
      pub places : List ℕ
      pub number : b.number ≡ a.number
      pub took_packets : Takes a.packets b.packets batches
      pub took_places : Takes a.commands b.commands places
      pub answering : SameAnswers a.answers b.answers
      pub app : g.app b.lane ≡ g.app a.lane
      pub keeps : g.keeps b.lane ≡ g.keeps a.lane
      pub stayed : g.failed a.lane ≢ None → b.lane ≡ a.lane
      pub silent : g.failed a.lane ≢ None → Sends a.answers b.answers []
      pub ran : g.failed a.lane ≡ None → Ran a b (packets_in batches) places

    -- a worker whose lane has failed or is ready
    abbrev pub MayWork : Worker L → Type 0
    MayWork worker = g.failed worker.lane ≡ None → IsReady worker.lane worker.commands

    -- the same, where a lane that had not failed was ready, and one that has not failed is
    pub record WorkedOn (a b : Worker L) : Type 0 where
      pub worked : Worked a b
      pub ready : MayWork b
