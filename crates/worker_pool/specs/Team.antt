-- Not of the headline. Workers that share a run, from their start to their end.
use Rattle.std.specs.Prelude.{◌≡◌, ℕ, ◌<◌, ◌≤◌, Bool, List, [], length, get_or, Option, Some, None, Result, Ok, Err, ⊤}
use Rattle.pcap_source.specs.Captured.{Captured}
use Rattle.pcap_source.specs.Capture.{too_long, too_many}
use Rattle.pcap_source.specs.Reading.{CaptureState, frames_at}
use Rattle.forest_versions.specs.declared.command.Command.{Command}
use Rattle.forest_versions.specs.State.{start}
use Rattle.control_script.specs.declared.stamped.Stamped.{Stamped}
use Rattle.control_script.specs.Order.{commands_of}
use Rattle.lane_rings.specs.declared.items.Packet.{Packet}
use Rattle.lane_rings.specs.declared.items.Batch.{Batch}
use Rattle.lane_rings.specs.declared.ring.RingTx.{RingTx}
use Rattle.lane_rings.specs.Batch.{packets_in}
use Rattle.lane_rings.specs.Ring.{sent, taken, AreEnds}
use Rattle.lane_core.specs.declared.recorder.Recorder.{Ghosts}
use Rattle.app_api.specs.App.{Meaning}
use Rattle.lane_worker.specs.declared.worker.Worker.{Worker}
use Rattle.worker_pool.specs.declared.team.Ran.{Ran}
use Rattle.worker_pool.specs.declared.team.dispatch.Whole.{Whole}
use Rattle.worker_pool.specs.declared.job.PoolError.{PoolError}
use Rattle.worker_pool.specs.declared.job.PoolError.TheVariants.{TooLong, TooMany, ReadFault, WriteFault, Heavy, NoMemory}
use Rattle.lane_worker.specs.Worked.{Worked}
use Rattle.worker_pool.specs.Sent.{packets_from, dealt}
use Rattle.worker_pool.specs.Inputs.{HasRead}

module _ {L : Type 0} where
  -- a worker that has taken nothing: its lane stands for no events, under the presets alone
  pub record IsNew (g : Ghosts L) (app : Meaning) (worker : Worker L) : Type 0 where
    pub stands : g.stands worker.lane []
    pub app_is : g.app worker.lane ≡ app
    pub control : g.control worker.lane ≡ start app.presets
    pub given : g.given worker.lane ≡ 0
    pub last : g.last worker.lane ≡ None
    pub failed : g.failed worker.lane ≡ None
    pub packets : taken worker.packets ≡ []
    pub commands : taken worker.commands ≡ []

  -- new workers, each with the other end of its packet ring, into which nothing was sent
  pub record IsTeam (g : Ghosts L) (app : Meaning) (workers : List (Worker L)) (packets : List (RingTx Batch)) : Type 0 where
    pub some : 1 ≤ length workers
    pub count : length workers ≡ length packets
    pub each_new : (k : ℕ) (w : Worker L) → k < length workers → IsNew g app (get_or workers k w)
    pub each_ends : (k : ℕ) (w : Worker L) (tx : RingTx Batch) → k < length workers → AreEnds (get_or packets k tx) (get_or workers k w).packets
    pub each_sent : (k : ℕ) (tx : RingTx Batch) → k < length packets → sent (get_or packets k tx) ≡ []

  -- workers whose lanes keep entries, or don't
  abbrev pub AllKeep : Ghosts L → Bool → List (Worker L) → Type 0
  AllKeep g keep workers = (k : ℕ) (w : Worker L) → k < length workers → g.keeps (get_or workers k w).lane ≡ keep

  -- a worker took exactly these packets, and did what a worker does
  pub record HasServed (g : Ghosts L) (script : List Command) (begin : Worker L) (packets : List Packet) (worker : Worker L) : Type 0 where
    pub worked : Worked g script begin worker
    pub took : packets_in (taken worker.packets) ≡ packets

  -- each worker served the packets of its lane among those of these frames
  pub record HaveServed (g : Ghosts L) (script : List Stamped) (begins : List (Worker L)) (frames : List Captured) (workers : List (Worker L)) : Type 0 where
    pub count : length begins ≡ length workers
    pub each : (k : ℕ) (a b : Worker L) → k < length workers
        → HasServed g (commands_of script) (get_or begins k a) (dealt (length workers) k (packets_from script 0 frames)) (get_or workers k b)

  -- what a team came to over a capture: its workers served all of it, or it is refused
  abbrev pub TeamRan : Ghosts L → List Stamped → List (Worker L) → CaptureState → Option (List ℕ) → Option (List ℕ) → Result (Ran L) PoolError → Type 0
  TeamRan g script begins capture old new (Ok ran) = (frames : List Captured) × (length frames ≤ 1048576)
      × HasRead frames capture old new ran.whole
      × HaveServed g script begins frames ran.workers.items
  TeamRan g script begins capture old new (Err (TooLong offset)) = (rest : List ℕ) → old ≡ Some rest → (frames_at capture rest).ending ≡ too_long offset
  TeamRan g script begins capture old new (Err (TooMany offset)) = (rest : List ℕ) → old ≡ Some rest → (frames_at capture rest).ending ≡ too_many offset
  TeamRan g script begins capture old new (Err ReadFault) = ⊤
  TeamRan g script begins capture old new (Err WriteFault) = ⊥
  TeamRan g script begins capture old new (Err Heavy) = ⊥
  TeamRan g script begins capture old new (Err NoMemory) = ⊤

-- what was read for a report: these frames are the whole capture, before a tail; or the capture is refused behind them
abbrev pub ReadsWhole : List Captured → CaptureState → Option (List ℕ) → Option (List ℕ) → Result Whole PoolError → Type 0
ReadsWhole frames capture old new (Ok whole) = HasRead frames capture old new whole
ReadsWhole frames capture old new (Err (TooLong offset)) = (rest : List ℕ) → old ≡ Some rest → (frames_at capture rest).ending ≡ too_long offset
ReadsWhole frames capture old new (Err (TooMany offset)) = (rest : List ℕ) → old ≡ Some rest → (frames_at capture rest).ending ≡ too_many offset
ReadsWhole frames capture old new (Err ReadFault) = ⊤
ReadsWhole frames capture old new (Err WriteFault) = ⊥
ReadsWhole frames capture old new (Err Heavy) = ⊥
ReadsWhole frames capture old new (Err NoMemory) = ⊤
