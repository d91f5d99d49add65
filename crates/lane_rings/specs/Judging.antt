-- Not of the headline. Packets of a batch, each of which is answered or let go, in order.
use Rattle.std.specs.Prelude.{ℕ, Option, Some, None, List, [], ◌∷◌}
use Rattle.app_api.specs.declared.reaction.Verdict.{Verdict}
use Rattle.lane_rings.specs.declared.items.Packet.{Packet}
use Rattle.lane_rings.specs.declared.items.Answer.{Answer}
use Rattle.lane_rings.specs.declared.batch.Place.{Place}
use Rattle.lane_rings.specs.declared.judging.LentAnswer.{LentAnswer}
use Rattle.lane_rings.specs.Places.{packet_of, lent}

-- what a lane says of a packet
abbrev pub answer_to : Packet → Verdict → Answer
answer_to p verdict = record { index = p.index; verdict = verdict; frame = p.frame }

-- the answer to a packet, if there is a verdict
abbrev pub answers_to : Packet → Option Verdict → List Answer
answers_to p None = []
answers_to p (Some verdict) = answer_to p verdict ∷ []

-- the answer to the packet of a place, whose bytes stand among these
abbrev pub answer_at : List ℕ → Place → Answer
answer_at bytes p = answer_to (packet_of bytes p) p.verdict

-- how far a batch is judged: the answers so far, and the packets whose turn is still to come
pub record JudgedSoFar : Type 0 where
  pub answers : List Answer
  pub left : List Packet

-- an answer that is lent, as one of its own
abbrev pub lent_answer : LentAnswer → Answer
lent_answer a = answer_to (lent a.packet) a.verdict
