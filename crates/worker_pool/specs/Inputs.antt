-- Not of the headline. What lanes are fed by, and what was sent to them.
use Rattle.std.specs.Prelude.{◌≡◌, ℕ, ◌<◌, ◌≤◌, List, [], ◌++◌, length, sum_by, get_or, Option, Some, IsTrue, Result, Ok, Err, ⊤}
use Rattle.pcap_source.specs.Captured.{Captured}
use Rattle.pcap_source.specs.Capture.{tail, too_long, too_many}
use Rattle.pcap_source.specs.Reading.{CaptureState, frames_at}
use Rattle.pcap_source.specs.declared.errors.NextError.{NextError}
use Rattle.pcap_source.specs.declared.errors.NextError.TheVariants.{TooLong, TooMany, ReadFault, NoMemory}
use Rattle.forest_versions.specs.declared.command.Command.{Command}
use Rattle.forest_versions.specs.Lawful.{are_lawful}
use Rattle.forest_versions.specs.State.{start}
use Rattle.control_script.specs.declared.stamped.Stamped.{Stamped}
use Rattle.control_script.specs.Order.{commands_of}
use Rattle.lane_rings.specs.declared.items.Packet.{Packet}
use Rattle.lane_rings.specs.Batch.{packets_in}
use Rattle.lane_rings.specs.Ring.{sent, known, taken, AreEnds}
use Rattle.lane_core.specs.declared.recorder.Recorder.{Ghosts}
use Rattle.lane_core.specs.Sight.{arrivals}
use Rattle.run_outcome.specs.Greatest.{greatest}
use Rattle.lane_worker.specs.declared.worker.Worker.{Worker}
use Rattle.worker_pool.specs.declared.team.worker_place.WorkerPlace.{WorkerPlace}
use Rattle.worker_pool.specs.declared.team.worker_place.WorkerPlace.TheVariants.{Thread, Inline}
use Rattle.worker_pool.specs.declared.team.lane_input.LaneInput.{LaneInput}
use Rattle.worker_pool.specs.declared.team.dispatch.Whole.{Whole}
use Rattle.lane_worker.specs.Worked.{WorkedOn}
use Rattle.worker_pool.specs.Sent.{packets_from, dealt}

module _ {L : Type 0} where
  -- a worker that began so is in its thread, which promises what it will have done; or it is in this one, and has done that much
  abbrev pub IsPlaced : Ghosts L → List Command → Worker L → WorkerPlace L → Type 0
  IsPlaced g script begin (Thread handle) = (handle.promise.start.value ≡ begin) × (commands_of handle.promise.script.value ≡ script)
  IsPlaced g script begin (Inline worker) = WorkedOn g script begin worker

  -- how many batches a worker took out of its ring in this thread
  abbrev pub taken_inline : WorkerPlace L → ℕ
  taken_inline (Thread handle) = 0
  taken_inline (Inline worker) = length (taken worker.packets)

  -- a worker that is in this thread has taken every batch that its ring showed
  abbrev pub HasTakenAll : WorkerPlace L → Type 0
  HasTakenAll (Thread handle) = ⊤
  HasTakenAll (Inline worker) = known worker.packets ≡ []

  -- the input of a worker that began so, to which these packets were given: they were sent, or are still unsent
  pub record IsInput (g : Ghosts L) (script : List Command) (begin : Worker L) (packets : List Packet) (input : LaneInput L) : Type 0 where
    pub lawful : IsTrue (are_lawful (start (g.app begin.lane).presets) script)
    pub ends : AreEnds input.packets begin.packets
    pub sent_are : packets_in (sent input.packets) ++ input.unsent ≡ packets
    pub placed : IsPlaced g script begin input.place

  -- an input of some worker, to which some packets were given
  abbrev pub IsSomeInput : Ghosts L → List Stamped → LaneInput L → Type 0
  IsSomeInput g script input = (begin : Worker L) × (packets : List Packet) × IsInput g (commands_of script) begin packets input

  -- whatever was given to an input, these packets were given to it besides
  abbrev pub Gets : Ghosts L → List Stamped → List Packet → LaneInput L → LaneInput L → Type 0
  Gets g script more a b = (begin : Worker L) (packets : List Packet) → IsInput g (commands_of script) begin packets a
      → IsInput g (commands_of script) begin (packets ++ more) b

  -- whatever was given to an input, no packet was given to it besides
  abbrev pub IsKept : Ghosts L → List Stamped → LaneInput L → LaneInput L → Type 0
  IsKept g script a b = (begin : Worker L) (packets : List Packet) → IsInput g (commands_of script) begin packets a
      → IsInput g (commands_of script) begin packets b

  -- the inputs of workers that began so, to which the packets of these frames were sent, each to that of its lane
  pub record AreInputs (g : Ghosts L) (script : List Stamped) (begins : List (Worker L)) (frames : List Captured) (inputs : List (LaneInput L)) : Type 0 where
    pub count : length begins ≡ length inputs
    pub each : (k : ℕ) (w : Worker L) (p : LaneInput L) → k < length inputs
        → IsInput g (commands_of script) (get_or begins k w) (dealt (length inputs) k (packets_from script 0 frames)) (get_or inputs k p)

  -- inputs of some workers, to which the packets of some frames were sent
  abbrev pub AreSomeInputs : Ghosts L → List Stamped → List (LaneInput L) → Type 0
  AreSomeInputs g script inputs = (begins : List (Worker L)) × (frames : List Captured) × AreInputs g script begins frames inputs

  -- whatever was given to the inputs, no packet was given to them besides
  abbrev pub AreKept : Ghosts L → List Stamped → List (LaneInput L) → List (LaneInput L) → Type 0
  AreKept g script a b = (begins : List (Worker L)) (frames : List Captured) → AreInputs g script begins frames a → AreInputs g script begins frames b

  -- how many batches the workers of all inputs took in this thread
  abbrev pub batches_taken : List (LaneInput L) → ℕ
  batches_taken inputs = sum_by (λ input. taken_inline input.place) inputs

  -- the workers of all inputs that are in this thread have taken every batch that their rings showed
  abbrev pub HaveTakenAll : List (LaneInput L) → Type 0
  HaveTakenAll inputs = (k : ℕ) (p : LaneInput L) → k < length inputs → HasTakenAll (get_or inputs k p).place

  -- nothing is left to be sent
  abbrev pub AreSent : List (LaneInput L) → Type 0
  AreSent inputs = (k : ℕ) (p : LaneInput L) → k < length inputs → (get_or inputs k p).unsent ≡ []

-- a capture was read to its end: these frames, before a tail
pub record HasRead (frames : List Captured) (capture : CaptureState) (old new : Option (List ℕ)) (whole : Whole) : Type 0 where
  pub count : length frames ≡ whole.packets
  pub last : whole.last ≡ greatest (arrivals 0 frames)
  pub holds : (rest : List ℕ) → old ≡ Some rest
      → (frames_at capture rest ≡ record { frames = frames; ending = tail whole.tail }) × (new ≡ Some [])

-- what was read: these frames are the whole capture, before a tail; or the capture is refused behind them
abbrev pub ReadsAs : List Captured → CaptureState → Option (List ℕ) → Option (List ℕ) → Result Whole NextError → Type 0
ReadsAs frames capture old new (Ok whole) = HasRead frames capture old new whole
ReadsAs frames capture old new (Err (TooLong offset)) = (rest : List ℕ) → old ≡ Some rest → (frames_at capture rest).ending ≡ too_long offset
ReadsAs frames capture old new (Err (TooMany offset)) = (rest : List ℕ) → old ≡ Some rest → (frames_at capture rest).ending ≡ too_many offset
ReadsAs frames capture old new (Err ReadFault) = ⊤
ReadsAs frames capture old new (Err NoMemory) = ⊤

module _ {L : Type 0} where
  -- the packets of some frames were sent to these inputs, and this holds of the frames
  pub record Dealt (g : Ghosts L) (script : List Stamped) (begins : List (Worker L)) (inputs : List (LaneInput L)) (did : List Captured → Type 0) : Type 0 where
    pub frames : List Captured
    pub few : length frames ≤ 1048576
    pub inputs_are : AreInputs g script begins frames inputs
    pub done : did frames
