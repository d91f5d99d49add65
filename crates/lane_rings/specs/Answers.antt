-- Not of the headline. What contracts see of answers that come from a lane together.
use Rattle.std.specs.Prelude.{List, [], ◌∷◌}
use Rattle.std.specs.List.{flat_map}
use Rattle.lane_rings.specs.declared.items.Answer.{Answer}
use Rattle.lane_rings.specs.declared.items.AnswerBatch.{AnswerBatch}
use Rattle.lane_rings.specs.declared.items.AnswerBatch.TheVariants.{Single, Flat}
use Rattle.lane_rings.specs.Judging.{answer_to}

-- the answers that come from a lane at once
abbrev pub answers_of : AnswerBatch → List Answer
answers_of (Single packet verdict) = answer_to packet verdict ∷ []
answers_of (Flat answers) = answers

-- the answers of several batches, one behind the other
abbrev pub answers_in : List AnswerBatch → List Answer
answers_in batches = flat_map answers_of batches
