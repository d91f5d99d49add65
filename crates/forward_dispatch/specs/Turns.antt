-- Not of the headline. What a turn of a forward run makes of it.
use Rattle.std.specs.Prelude.{◌≡◌, ◌≢◌, ◌≤◌, ◌+◌, ℕ, true, List, [], ◌∷◌, ◌++◌, length, Option, Some, None, Result, Ok, Err, ⊤}
use mathlib.Core.List.{IsPrefix}
use Rattle.pcap_source.specs.Captured.{Captured}
use Rattle.pcap_source.specs.Reading.{CaptureState, NextGives, frames_at}
use Rattle.pcap_source.specs.declared.capture.Step.TheVariants.{Frame}
use Rattle.control_script.specs.declared.stamped.Stamped.{Stamped}
use Rattle.lane_core.specs.declared.recorder.Recorder.{Ghosts}
use Rattle.lane_core.specs.Sight.{arrivals}
use Rattle.run_outcome.specs.Greatest.{greatest}
use Rattle.lane_worker.specs.declared.worker.Worker.{Worker}
use Rattle.worker_pool.specs.declared.team.dispatch.Whole.{Whole}
use Rattle.worker_pool.specs.declared.job.PoolError.{PoolError}
use Rattle.worker_pool.specs.declared.job.PoolError.TheVariants.{WriteFault}
use Rattle.worker_pool.specs.Inputs.{AreInputs}
use Rattle.forward_dispatch.specs.declared.dispatch.Dealing.{Dealing}
use Rattle.forward_dispatch.specs.OnTheirWay.{Leaves, IsCutOff, LeavesOn, sent_on}
use Rattle.forward_dispatch.specs.Streamed.{AreLaneAnswers, StopsAs, lanes_of}

module _ {L : Type 0} where
  -- the packets of these frames were sent, and those that are not on their way were written whole or dropped
  abbrev pub LeavesSo : List Captured → Dealing L → Option (List ℕ) → Option (List ℕ) → Type 0
  LeavesSo frames d before out = Leaves (lanes_of (length d.way.all_answers.items) frames) d.way before out

  -- some were, and the record of the last of these may be cut off
  abbrev pub IsLeftSo : List Captured → Dealing L → Option (List ℕ) → Option (List ℕ) → Type 0
  IsLeftSo frames d before out = IsCutOff (lanes_of (length d.way.all_answers.items) frames) d.way before out

  module _ (g : Ghosts L) (script : List Stamped) where
    -- the packets of these frames, the first of the capture, were sent to workers that began so
    pub record HasSent (begins : List (Worker L)) (frames : List Captured) (d : Dealing L) : Type 0 where
      pub count : length frames ≡ sent_on d.way
      pub newest : d.last ≡ greatest (arrivals 0 frames)
      pub inputs_are : AreInputs g script begins frames d.inputs.items
      pub all_answers_are : AreLaneAnswers begins d.way.all_answers.items

    -- the packets of some frames were sent to workers that began somehow
    abbrev pub HasSentSome : Dealing L → Type 0
    HasSentSome d = (begins : List (Worker L)) × (frames : List Captured) × HasSent begins frames d

    -- nothing was sent, and nothing has left
    abbrev pub HasSentNone : Dealing L → Option (List ℕ) → Type 0
    HasSentNone d out = (begins : List (Worker L)) × (before : Option (List ℕ)) × HasSent begins [] d × LeavesSo [] d before out

    -- the run has lanes, and sent the packets of some frames to workers that began somehow
    pub record IsUnderWay (d : Dealing L) : Type 0 where
      pub some : 1 ≤ length d.inputs.items
      pub begins : List (Worker L)
      pub frames : List Captured
      pub sent : HasSent begins frames d

    -- no packet was sent, and more left; where `whole` holds, no record is cut off
    pub record Settles (a b : Dealing L) (old new : Option (List ℕ)) (whole : Type 0) : Type 0 where
      pub inputs : (begins : List (Worker L)) (frames : List Captured) → AreInputs g script begins frames a.inputs.items → AreInputs g script begins frames b.inputs.items
      pub newest : b.last ≡ a.last
      pub leaves : LeavesOn a.way b.way old new whole

    -- the packets of these frames were sent behind those before, and what has left is right if it was before
    pub record WentOn (a b : Dealing L) (old new : Option (List ℕ)) (more : List Captured) : Type 0 where
      pub sent : (begins : List (Worker L)) (frames : List Captured) → HasSent begins frames a → HasSent begins (frames ++ more) b
      pub leaves : (begins : List (Worker L)) (frames : List Captured) (before : Option (List ℕ)) → HasSent begins frames a → LeavesSo frames a before old → LeavesSo (frames ++ more) b before new

    -- one packet more was read and sent
    pub record SendsOne (a b : Dealing L) (capture capture_now : CaptureState) (left left_now old new : Option (List ℕ)) : Type 0 where
      pub frame : Captured
      pub gives : NextGives capture capture_now left left_now frame (Ok Frame)
      pub live : capture_now.is_live ≡ true
      pub count : capture_now.count ≡ sent_on b.way
      pub more : sent_on b.way ≡ sent_on a.way + 1
      pub within : sent_on b.way ≤ 1048576
      pub went : WentOn a b old new (frame ∷ [])

    -- Of a capture that began at `start` with the bytes `first` these are left.
    module _ (start : CaptureState) (first left : Option (List ℕ)) (begins : List (Worker L)) (d : Dealing L) (before out : Option (List ℕ)) where
      -- The packets of these frames, the first of the capture, were sent, and reading ended with this. Those that are not on their way
      -- have left; at a fault of writing a record is cut off.
      pub record IsRead (frames : List Captured) (result : Result Whole PoolError) : Type 0 where
        pub few : length frames ≤ 1048576
        pub sent : HasSent begins frames d
        pub leaves : result ≢ Err WriteFault → LeavesSo frames d before out
        pub left_so : IsLeftSo frames d before out
        pub front : (bytes : List ℕ) → first ≡ Some bytes → IsPrefix frames (frames_at start bytes).frames
        pub stops : StopsAs frames start first left result

      -- how reading ended, where a turn of the run ended it
      abbrev pub EndsSo : Result (Option Whole) PoolError → Type 0
      EndsSo (Ok None) = ⊤
      EndsSo (Ok (Some whole)) = (frames : List Captured) × IsRead frames (Ok whole)
      EndsSo (Err e) = (frames : List Captured) × IsRead frames (Err e)
