-- Not of the headline. Workers that are made one after the other.
use Rattle.std.specs.Prelude.{◌≡◌, ℕ, ◌<◌, Bool, List, [], ◌∷◌, ◌++◌, length, get_or, Option, None}
use Rattle.app_api.specs.App.{Meaning}
use Rattle.forest_versions.specs.State.{start}
use Rattle.lane_rings.specs.declared.items.AnswerBatch.{AnswerBatch}
use Rattle.lane_rings.specs.declared.items.Batch.{Batch}
use Rattle.lane_rings.specs.declared.ring.RingTx.{RingTx}
use Rattle.lane_rings.specs.Ring.{sent, AreEnds}
use Rattle.lane_core.specs.declared.recorder.Recorder.{Ghosts}
use Rattle.lane_worker.specs.declared.worker.Worker.{Worker}
use Rattle.worker_pool.specs.Team.{IsNew, AllKeep}

module _ {L : Type 0} (g : Ghosts L) (app : Meaning) (keep : Bool) where
  -- a lane that stands for no events, under the presets alone; it keeps entries, or doesn't
  pub record IsFresh (lane : L) : Type 0 where
    pub stands : g.stands lane []
    pub app_is : g.app lane ≡ app
    pub keeps : g.keeps lane ≡ keep
    pub control : g.control lane ≡ start app.presets
    pub given : g.given lane ≡ 0
    pub last : g.last lane ≡ None
    pub failed : g.failed lane ≡ None

  -- new workers over such lanes, each with the other end of its packet ring, into which nothing was sent
  pub record AreBegun (workers : List (Worker L)) (packets : List (RingTx Batch)) : Type 0 where
    pub count : length workers ≡ length packets
    pub each_new : (k : ℕ) (w : Worker L) → k < length workers → IsNew g app (get_or workers k w)
    pub each_ends : (k : ℕ) (w : Worker L) (tx : RingTx Batch) → k < length workers → AreEnds (get_or packets k tx) (get_or workers k w).packets
    pub kept : AllKeep g keep workers
    pub each_sent : (k : ℕ) (tx : RingTx Batch) → k < length packets → sent (get_or packets k tx) ≡ []

-- one more worker, whose number is its place among them; it answers there, and gives batches back there
pub record Adds {L : Type 0} (answers : Option (RingTx AnswerBatch)) (used : Option (RingTx Batch)) (before after : List (Worker L)) : Type 0 where
  pub worker : Worker L
  pub answering : worker.answers ≡ answers
  pub giving_back : worker.used ≡ used
  pub number : worker.number ≡ length before
  pub behind : after ≡ before ++ worker ∷ []

-- what holds of workers begun for an application holds of them with one over this lane, where that is fresh
abbrev pub JoinsBegun : {L : Type 0} → Ghosts L → L → List (Worker L) → List (RingTx Batch) → List (Worker L) → List (RingTx Batch) → Type 0
JoinsBegun g lane workers packets workers_after packets_after = (app : Meaning) (keep : Bool) → IsFresh g app keep lane → AreBegun g app keep workers packets
    → AreBegun g app keep workers_after packets_after
