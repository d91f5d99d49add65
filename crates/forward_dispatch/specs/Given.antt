-- Not of the headline. What lanes have answered, and how much of it was given out: by each answer that is, a packet leaves.
use Rattle.std.specs.Prelude.{◌≡◌, ℕ, Bool, true, false, List, [], ◌∷◌, ◌++◌, map, get_or, Option, Result, Ok, Err}
use Rattle.std.specs.Io.KnownBytes.{Appends}
use Rattle.mos_bytes.specs.declared.failed.Failed.{Failed}
use Rattle.mos_bytes.specs.Writes.{AppendsFront}
use Rattle.lane_rings.specs.declared.items.Answer.{Answer}
use Rattle.lane_rings.specs.Answers.{answers_in}
use Rattle.lane_rings.specs.Ring.{taken, SameRx}
use Rattle.lane_composition.specs.Forwarded.{bytes_out}
use Rattle.forward_dispatch.specs.declared.lane_answers.LaneAnswers.{LaneAnswers}
use Rattle.forward_dispatch.specs.Rest.{rest_of, before_rest}

-- the answers of a lane that were given out: all that were taken from its ring, but the rest of the batch at hand
abbrev pub given_by : LaneAnswers → List Answer
given_by r = before_rest (answers_in (taken r.ring)) (rest_of r.batch r.at)

-- those of each of these lanes; none where there is no such lane
abbrev pub given_from : List LaneAnswers → ℕ → List Answer
given_from all_answers l = get_or (map given_by all_answers) l []

-- of the same lane these answers more were given out
pub record Gives (a b : LaneAnswers) (answers : List Answer) : Type 0 where
  pub ring : SameRx a.ring b.ring
  pub given : given_by b ≡ given_by a ++ answers

-- A lane's next answer was given out, and what it lets pass was written, or a front of that where the write failed. Or there is none
-- yet.
abbrev pub LeavesOne : LaneAnswers → LaneAnswers → Option (List ℕ) → Option (List ℕ) → Result Bool Failed → Type 0
LeavesOne a b old new (Ok true) = (x : Answer) × Gives a b (x ∷ []) × Appends old new (bytes_out x)
LeavesOne a b old new (Ok false) = Gives a b [] × (new ≡ old)
LeavesOne a b old new (Err e) = (x : Answer) × Gives a b (x ∷ []) × AppendsFront old new (bytes_out x)
