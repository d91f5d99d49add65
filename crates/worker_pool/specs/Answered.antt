-- Not of the headline. What workers answered.
use Rattle.std.specs.Prelude.{◌≡◌, ℕ, ◌<◌, None, List, length, get_or}
use mathlib.Core.List.{IsPrefix}
use Rattle.app_api.specs.App.{Meaning}
use Rattle.pcap_source.specs.Captured.{Captured}
use Rattle.lane_rings.specs.declared.items.Answer.{Answer}
use Rattle.lane_core.specs.declared.recorder.Recorder.{Ghosts}
use Rattle.lane_core.specs.Run.{LaneEvent}
use Rattle.lane_composition.specs.Taken.{events_at, verdicts_in}
use Rattle.lane_composition.specs.Streamed.{answers_to}
use Rattle.lane_worker.specs.declared.worker.Worker.{Worker}
use Rattle.lane_worker.specs.Worked.{Sends}

-- it tells the frame of each packet of these by its number
abbrev pub TellsFrames : List Captured → (ℕ → Captured) → Type 0
TellsFrames frames frame_of = (i : ℕ) (d : Captured) → i < length frames → frame_of i ≡ get_or frames i d

module _ {L : Type 0} where
  -- A worker whose lane stands for these events answered their first packets with what became of them, and all of them where the lane
  -- has not failed.
  pub record HasAnswered (g : Ghosts L) (app : Meaning) (frames : List Captured) (events : List LaneEvent) (begin worker : Worker L) : Type 0 where
    pub answers : List Answer
    pub sends : Sends begin.answers worker.answers answers
    pub front : (frame_of : ℕ → Captured) → TellsFrames frames frame_of → IsPrefix answers (answers_to frame_of (verdicts_in app events))
    pub whole : (frame_of : ℕ → Captured) → TellsFrames frames frame_of → g.failed worker.lane ≡ None → answers ≡ answers_to frame_of (verdicts_in app events)

  -- so did each of these workers
  abbrev pub HaveAnswered : Ghosts L → Meaning → List Captured → List (Worker L) → List (Worker L) → List (List LaneEvent) → Type 0
  HaveAnswered g app frames begins workers lanes =
      (k : ℕ) (a b : Worker L) → k < length workers → HasAnswered g app frames (events_at lanes k) (get_or begins k a) (get_or workers k b)
