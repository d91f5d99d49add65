-- Not of the headline. The dispatcher of a forward run, with what it has sent to the lanes, taken from them, and written.
use Rattle.std.specs.Prelude.{◌≡◌, ℕ, ◌<◌, ◌⊎◌, List, [], length, map, get_or, Option, Some, Result, Ok, Err, IsOk, IsErrOf, IsTrue, ⊤}
use Rattle.std.specs.List.{All}
use mathlib.Core.List.{IsPrefix}
use Rattle.mos_bytes.specs.declared.source.Source.{Ghosts as Source}
use Rattle.mos_bytes.specs.declared.sink.Sink.{Ghosts as Sink}
use Rattle.mos_bytes.specs.Outside.{Writes}
use Rattle.pcap_source.specs.Captured.{Captured}
use Rattle.pcap_source.specs.Capture.{too_long, too_many}
use Rattle.pcap_source.specs.Reading.{CaptureState, frames_at}
use Rattle.ip6_views.specs.Sight.{sight_of, lane_of_sight}
use Rattle.lane_rings.specs.declared.items.AnswerBatch.{AnswerBatch}
use Rattle.lane_rings.specs.declared.ring.RingTx.{RingTx}
use Rattle.lane_rings.specs.Ring.{sent, AreEnds}
use Rattle.lane_composition.specs.Forward.{HaveLeft, HasLeft}
use Rattle.lane_worker.specs.declared.worker.Worker.{Worker}
use Rattle.worker_pool.specs.declared.team.dispatch.Whole.{Whole}
use Rattle.worker_pool.specs.declared.job.PoolError.{PoolError}
use Rattle.worker_pool.specs.declared.job.PoolError.TheVariants.{TooLong, TooMany, ReadFault, WriteFault, Heavy, NoMemory}
use Rattle.worker_pool.specs.GoesOn.{GoesOn}
use Rattle.worker_pool.specs.Inputs.{HasRead}
use Rattle.worker_pool.specs.Source.{ReadsOn}
use Rattle.forward_dispatch.specs.declared.lane_answers.LaneAnswers.{LaneAnswers}
use Rattle.forward_dispatch.specs.Given.{given_by, given_from}
use Rattle.forward_dispatch.specs.OnTheirWay.{lane_by}

-- the lanes of the packets of these frames, in order, among so many lanes
abbrev pub lanes_of : ℕ → List Captured → List ℕ
lanes_of lanes frames = map (λ f. lane_of_sight (sight_of f.bytes) lanes) frames

-- the lane of each packet by its number; lane 0 past the end
abbrev pub lane_at : ℕ → List Captured → ℕ → ℕ
lane_at lanes frames = lane_by (lanes_of lanes frames)

-- ---- the answers of workers

module _ {L : Type 0} where
  -- a worker that begins so answers into the ring of which this is the taking end, and has answered nothing
  pub record IsAnswered (begin : Worker L) (lane_answers : LaneAnswers) : Type 0 where
    pub ring : RingTx AnswerBatch
    pub answers : begin.answers ≡ Some ring
    pub unsent : sent ring ≡ []
    pub ends : AreEnds ring lane_answers.ring

  -- the answers of workers that began so
  pub record AreLaneAnswers (begins : List (Worker L)) (all_answers : List LaneAnswers) : Type 0 where
    pub count : length begins ≡ length all_answers
    pub answered : (k : ℕ) (w : Worker L) (r : LaneAnswers) → k < length all_answers → IsAnswered (get_or begins k w) (get_or all_answers k r)

  -- the same, where none was given out
  pub record AreUnused (begins : List (Worker L)) (all_answers : List LaneAnswers) : Type 0 where
    pub all_answers_are : AreLaneAnswers begins all_answers
    pub ungiven : All (λ r. given_by r ≡ []) all_answers

-- ---- the run

-- why the dispatcher stopped, where it read a capture that gives these frames
abbrev pub StopsAs : List Captured → CaptureState → Option (List ℕ) → Option (List ℕ) → Result Whole PoolError → Type 0
StopsAs frames capture old new (Ok whole) = HasRead frames capture old new whole
StopsAs frames capture old new (Err (TooLong offset)) = (rest : List ℕ) → old ≡ Some rest → (frames_at capture rest).ending ≡ too_long offset
StopsAs frames capture old new (Err (TooMany offset)) = (rest : List ℕ) → old ≡ Some rest → (frames_at capture rest).ending ≡ too_many offset
StopsAs frames capture old new (Err ReadFault) = ⊤
StopsAs frames capture old new (Err WriteFault) = ⊤
StopsAs frames capture old new (Err Heavy) = ⊥
StopsAs frames capture old new (Err NoMemory) = ⊤

-- An opened capture was read on and what passes was written, with this result. The capture may be read on only where a write failed or
-- memory was refused: then it goes on behind the records that were read.
pub record ReadsAndWrites {S O T : Type 0} (source : Source S) (sink : Sink O) (capture capture_now : CaptureState) (old new : S) (before after : O) (result : Result T PoolError) : Type 0 where
  pub reads : ReadsOn source capture old new (IsOk result) (IsErrOf result ReadFault)
  pub writes : Writes sink before after (IsErrOf result WriteFault)
  pub stopped : IsTrue capture_now.is_live → ((result ≡ Err WriteFault) ⊎ (result ≡ Err NoMemory)) × GoesOn capture capture_now (source.left old) (source.left new)

module _ {L : Type 0} where
  -- The packets of these frames, the first of the capture, were sent, and some of them have left by the answers of their lanes: all of
  -- them at `Ok`. At a fault of writing the record of the last one is cut off.
  pub record Streamed (begins : List (Worker L)) (frames : List Captured) (all_answers : List LaneAnswers) (capture : CaptureState) (old new before after : Option (List ℕ))
      (result : Result Whole PoolError) : Type 0 where
    pub all_answers_are : AreLaneAnswers begins all_answers
    pub left : HasLeft (lane_at (length all_answers) frames) (length frames) (given_from all_answers) before after
    pub whole : IsOk result → HaveLeft (lane_at (length all_answers) frames) (length frames) (given_from all_answers) before after
    pub front : (rest : List ℕ) → old ≡ Some rest → IsPrefix frames (frames_at capture rest).frames
    pub stops : StopsAs frames capture old new result
