-- Only for proofs. A capture whose packets are dealt to the lanes: how far that has come.
use Rattle.std.specs.Prelude.{◌≡◌, ℕ, ◌+◌, ◌≤◌, List, ◌++◌, length, Option, None, IsTrue}
use Rattle.pcap_source.specs.Captured.{Captured}
use Rattle.pcap_source.specs.Reading.{CaptureState}
use Rattle.control_script.specs.declared.stamped.Stamped.{Stamped}
use Rattle.lane_core.specs.declared.recorder.Recorder.{Ghosts}
use Rattle.lane_core.specs.Sight.{arrivals}
use Rattle.lane_worker.specs.declared.worker.Worker.{Worker}
use Rattle.run_outcome.specs.Greatest.{greatest}
use Rattle.worker_pool.specs.declared.team.lane_input.LaneInput.{LaneInput}
use Rattle.worker_pool.specs.declared.team.progress.Progress.{Progress}
use Rattle.worker_pool.specs.GoesOn.{IsReadTo}
use Rattle.worker_pool.specs.Inputs.{AreInputs}

-- where it stands: the inputs of the lanes, the capture, how far it has come in it, and what bytes are left of it
pub record DealState (L : Type 0) : Type 0 where
  pub inputs : List (LaneInput L)
  pub capture : CaptureState
  pub so_far : Progress
  pub left : Option (List ℕ)

abbrev pub deal_at : {L : Type 0} → List (LaneInput L) → CaptureState → Progress → Option (List ℕ) → DealState L
deal_at inputs capture so_far left = record { inputs = inputs; capture = capture; so_far = so_far; left = left }

-- no packet was dealt
abbrev pub at_start : Progress
at_start = record { packets = 0; last = None }

module _ {L : Type 0} (g : Ghosts L) (script : List Stamped) where
  -- so many packets were dealt: those of some frames
  pub record WereDealt (packets : ℕ) (inputs : List (LaneInput L)) : Type 0 where
    pub begins : List (Worker L)
    pub frames : List Captured
    pub count : length frames ≡ packets
    pub inputs_are : AreInputs g script begins frames inputs

  -- behind so many packets those of these frames are dealt
  abbrev pub Deals : ℕ → List Captured → List (LaneInput L) → List (LaneInput L) → Type 0
  Deals packets more old new = (begins : List (Worker L)) (frames : List Captured) → length frames ≡ packets
      → AreInputs g script begins frames old → AreInputs g script begins (frames ++ more) new

  -- behind so many packets some are dealt, no more than a capture may have
  pub record DealsSome (packets : ℕ) (old new : List (LaneInput L)) : Type 0 where
    pub frames : List Captured
    pub few : packets + length frames ≤ 1048576
    pub dealt : Deals packets frames old new

  -- the next packet may be read and dealt
  pub record MayDeal (inputs : List (LaneInput L)) (capture : CaptureState) (so_far : Progress) : Type 0 where
    pub live : IsTrue capture.is_live
    pub count : capture.count ≡ so_far.packets
    pub few : so_far.packets ≤ 1048576
    pub some : 1 ≤ length inputs
    pub dealt : WereDealt so_far.packets inputs

  -- the packets of some frames are dealt, and these frames are what is read
  pub record DealsOn (a b : DealState L) : Type 0 where
    pub frames : List Captured
    pub may : MayDeal b.inputs b.capture b.so_far
    pub count : b.so_far.packets ≡ a.so_far.packets + length frames
    pub dealt : Deals a.so_far.packets frames a.inputs b.inputs
    pub last : (before : List Captured) → a.so_far.last ≡ greatest (arrivals 0 before) → b.so_far.last ≡ greatest (arrivals 0 (before ++ frames))
    pub read : (start : CaptureState) (bytes : List ℕ) (before : List Captured) → IsReadTo start bytes before a.capture a.left → IsReadTo start bytes (before ++ frames) b.capture b.left
