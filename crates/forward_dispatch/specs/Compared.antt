-- Not of the headline. What lanes were seen to answer, and what their workers sent.
use Rattle.std.specs.Prelude.{◌≡◌, ℕ, ◌<◌, Option, Some, None, List, [], length, map, get_or}
use Rattle.lane_rings.specs.declared.items.Answer.{Answer}
use Rattle.lane_rings.specs.declared.items.AnswerBatch.{AnswerBatch}
use Rattle.lane_rings.specs.declared.ring.RingTx.{RingTx}
use Rattle.lane_rings.specs.declared.ring.RingRx.{RingRx}
use Rattle.lane_rings.specs.Answers.{answers_in}
use Rattle.lane_rings.specs.Ring.{sent, AreEnds}
use Rattle.lane_worker.specs.declared.worker.Worker.{Worker}
use Rattle.forward_dispatch.specs.declared.lane_answers.LaneAnswers.{LaneAnswers}

-- the answers that were sent, where there is a ring for them
abbrev pub sent_in : Option (RingTx AnswerBatch) → List Answer
sent_in None = []
sent_in (Some tx) = answers_in (sent tx)

-- the sending end, which is there, and the taking end of one ring
abbrev pub AreAnswerEnds : Option (RingTx AnswerBatch) → RingRx AnswerBatch → Type 0
AreAnswerEnds None rx = ⊥
AreAnswerEnds (Some tx) rx = AreEnds tx rx

module _ {L : Type 0} where
  -- the answers that each worker sent; none where there is no such worker
  abbrev pub sent_from : List (Worker L) → ℕ → List Answer
  sent_from workers l = get_or (map (λ w. sent_in w.answers) workers) l []

  -- workers, and the taking ends of their answer rings
  pub record AreBeside (workers : List (Worker L)) (all_answers : List LaneAnswers) : Type 0 where
    pub count : length workers ≡ length all_answers
    pub each : (k : ℕ) (w : Worker L) (r : LaneAnswers) → k < length all_answers → AreAnswerEnds (get_or workers k w).answers (get_or all_answers k r).ring
