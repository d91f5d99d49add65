-- Only for proofs. What one packet, and the places that are taken for it, make of a lane and of its ring of places.
use Rattle.std.specs.Prelude.{◌≡◌, ◌≢◌, ℕ, ◌+◌, None, List, [], ◌∷◌, ◌++◌, length, Result, Ok, Err}
use Rattle.app_api.specs.declared.reaction.Verdict.{Verdict}
use Rattle.forest_versions.specs.declared.command.Command.{Command}
use Rattle.lane_rings.specs.declared.items.Packet.{Packet}
use Rattle.lane_rings.specs.declared.items.Answer.{Answer}
use Rattle.lane_rings.specs.declared.ring.RingRx.{RingRx}
use Rattle.lane_rings.specs.Judging.{JudgedSoFar, answer_to}
use Rattle.lane_rings.specs.Ring.{known}
use Rattle.lane_core.specs.declared.errors.LaneError.{LaneError}
use Rattle.lane_core.specs.declared.recorder.Recorder.{Ghosts}
use Rattle.lane_core.specs.Run.{LaneEvent, commands_of}
use Rattle.lane_worker.specs.Given.{TakesCommands}
use Rattle.lane_worker.specs.Steps.{Step, answers_of, events_of}
use Rattle.lane_worker.specs.Worked.{Takes, Sends, SameAnswers, WentOn, Ran, RanSo}
use Rattle.lane_worker.specs.declared.worker.Worker.{Worker}

module _ {L : Type 0} (g : Ghosts L) (script : List Command) where
  -- a lane took commands, one for each of these places, which came out of the ring
  pub record Advanced (a b : L) (from to : RingRx ℕ) : Type 0 where
    pub commands : TakesCommands g script a b
    pub places : List ℕ
    pub took : Takes from to places
    pub of_places : length (commands.done ++ commands.bad) ≡ length places

  -- a packet that fits was handed over behind the commands for it, or the lane failed at one of these
  pub record Turned (a b : L) (from to : RingRx ℕ) (p : Packet) (result : Result Verdict LaneError) : Type 0 where
    pub turn : List Command
    pub done : List Step
    pub bad : List Step
    pub places : List ℕ
    pub took : Takes from to places
    pub went : WentOn g script (g.given a + length (known from)) (record { packet = p; commands = turn } ∷ []) a b done bad
    pub of_places : g.failed b ≡ None → length (commands_of (events_of done)) ≡ length places
    pub answered : (v : Verdict) → result ≡ Ok v → (events : List LaneEvent) → g.stands a events → answers_of (g.app a) events done ≡ answer_to p v ∷ []
    pub silent : (e : LaneError) → result ≡ Err e → (events : List LaneEvent) → g.stands a events → answers_of (g.app a) events done ≡ []

  -- what a worker made of packets that it had taken out of its ring
  pub record TookUp (a b : Worker L) (packets : List Packet) : Type 0 where
    pub places : List ℕ
    pub same : b.packets ≡ a.packets
    pub number : b.number ≡ a.number
    pub took_places : Takes a.commands b.commands places
    pub answering : SameAnswers a.answers b.answers
    pub app : g.app b.lane ≡ g.app a.lane
    pub keeps : g.keeps b.lane ≡ g.keeps a.lane
    pub stayed : g.failed a.lane ≢ None → b.lane ≡ a.lane
    pub silent : g.failed a.lane ≢ None → Sends a.answers b.answers []
    pub ran : g.failed a.lane ≡ None → Ran g script a b packets places

  -- what a worker's lane made of packets that it had taken out of its ring: these answers, none of which was sent so far
  pub record Judged (a b : Worker L) (packets : List Packet) (answers : List Answer) : Type 0 where
    pub places : List ℕ
    pub same : b.packets ≡ a.packets
    pub number : b.number ≡ a.number
    pub took_places : Takes a.commands b.commands places
    pub unsent : b.answers ≡ a.answers
    pub app : g.app b.lane ≡ g.app a.lane
    pub keeps : g.keeps b.lane ≡ g.keeps a.lane
    pub stayed : g.failed a.lane ≢ None → b.lane ≡ a.lane
    pub silent : g.failed a.lane ≢ None → answers ≡ []
    pub ran : g.failed a.lane ≡ None → RanSo g script a b packets places (λ right. answers ≡ right)

  -- the same of the first packets of a batch, where it is judged so far
  pub record JudgedTo (a b : Worker L) (batch : List Packet) (so_far : JudgedSoFar) : Type 0 where
    pub packets : List Packet
    pub all : packets ++ so_far.left ≡ batch
    pub judged : Judged a b packets so_far.answers
