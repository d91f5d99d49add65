-- Not of the headline. The answers of a lane that are at hand.
use Rattle.std.specs.Prelude.{ℕ, ◌-◌, List, length, take, drop}
use Rattle.lane_rings.specs.declared.items.Answer.{Answer}
use Rattle.lane_rings.specs.declared.items.AnswerBatch.{AnswerBatch}
use Rattle.lane_rings.specs.Answers.{answers_of}

-- the answers of a batch behind the first n
abbrev pub rest_of : AnswerBatch → ℕ → List Answer
rest_of batch n = drop n (answers_of batch)

-- of all answers those before these, which are the last
abbrev pub before_rest : List Answer → List Answer → List Answer
before_rest all rest = take (length all - length rest) all
