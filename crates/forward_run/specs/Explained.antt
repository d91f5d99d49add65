-- Only for proofs. What the answers of lanes say of a forward run.
use Rattle.std.specs.Prelude.{◌≡◌, ℕ, ◌<◌, Option, None, List, length, get_or}
use Rattle.std.specs.Io.KnownBytes.{Appends}
use mathlib.Core.List.{IsPrefix}
use Rattle.mos_bytes.specs.Writes.{AppendsFront}
use Rattle.app_api.specs.App.{Meaning}
use Rattle.pcap_source.specs.Captured.{Captured}
use Rattle.control_script.specs.declared.stamped.Stamped.{Stamped}
use Rattle.control_script.specs.Order.{commands_of}
use Rattle.lane_rings.specs.declared.items.Answer.{Answer}
use Rattle.lane_composition.specs.Forward.{HaveLeft, HasLeft}
use Rattle.lane_core.specs.declared.recorder.Recorder.{Ghosts}
use Rattle.lane_core.specs.Sight.{arrivals}
use Rattle.lane_core.specs.Run.{LaneEvent}
use Rattle.lane_composition.specs.Taken.{AreOneRun}
use Rattle.lane_worker.specs.declared.worker.Worker.{Worker}
use Rattle.run_outcome.specs.Allowed.{MayHave}
use Rattle.worker_pool.specs.Ending.{by_key}
use Rattle.run_outcome.specs.Forwarded.{forwarded_with}
use Rattle.forward_dispatch.specs.Streamed.{lane_at}
use Rattle.forward_dispatch.specs.Compared.{sent_from}

module _ {L : Type 0} where
  -- none of the lanes failed
  abbrev pub AreGood : Ghosts L → List (Worker L) → Type 0
  AreGood g workers = (k : ℕ) (w : Worker L) → k < length workers → g.failed (get_or workers k w).lane ≡ None

  -- The packets of `frames` were sent, and some of them have left by the first answers of their lanes, whichever of them: what was written
  -- is a front of what these frames and those behind them leave, under versions that the run may have.
  pub record LeavesFront (app : Meaning) (script : List Stamped) (frames told : List Captured) (workers : List (Worker L)) : Type 0 where
    pub versions : List ℕ
    pub may_have : MayHave app script (length workers) told versions
    pub front : (given : ℕ → List Answer) (old new : Option (List ℕ)) → ((l : ℕ) → IsPrefix (given l) (sent_from workers l))
        → HasLeft (lane_at (length workers) frames) (length frames) given old new → AppendsFront old new (forwarded_with app script versions told)

  -- Where all packets have left by the first answers of their lanes, what was written is all that these frames leave, under versions that
  -- the run may have, and under which the lanes are one run.
  pub record LeavesAll (app : Meaning) (script : List Stamped) (frames : List Captured) (workers : List (Worker L)) (lanes : List (List LaneEvent)) : Type 0 where
    pub versions : List ℕ
    pub may_have : MayHave app script (length workers) frames versions
    pub one : AreOneRun app (commands_of script) (by_key (length workers)) (arrivals 0 frames) lanes versions
    pub all : (given : ℕ → List Answer) (old new : Option (List ℕ)) → ((l : ℕ) → IsPrefix (given l) (sent_from workers l))
        → HaveLeft (lane_at (length workers) frames) (length frames) given old new → Appends old new (forwarded_with app script versions frames)
