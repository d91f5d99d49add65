-- The answers of lanes are the right ones.
use Rattle.std.proofs.Common.{◌≡◌, ℕ, List, length, take, sym, ap, ◌∙◌, map, arith}
use Rattle.std.proofs.lemmas.List.{map-append, take_all}
use mathlib.Core.List.{IsPrefix}
use Rattle.pcap_source.specs.Captured.{Captured}
use Rattle.app_api.specs.App.{Meaning}
use Rattle.app_api.specs.declared.reaction.Verdict.{Verdict}
use Rattle.forest_versions.specs.declared.command.Command.{Command}
use Rattle.lane_rings.specs.declared.items.Answer.{Answer}
use Rattle.lane_composition.specs.Share.{share as numbers_of_share}
use Rattle.lane_composition.specs.Forwarded.{forwarded as forwarded_numbers}
use Rattle.flow_table.specs.Key.{EndpointPair}
use Rattle.lane_core.specs.Sight.{Arrival, arrivals}
use Rattle.lane_core.specs.Run.{LaneEvent}
use Rattle.lane_composition.specs.Judged.{forwarded}
use Rattle.lane_composition.specs.Runs.{judged_part}
use Rattle.lane_composition.specs.Streamed.{answer_to, answers_to, answer_at, lane_in, frame_bytes}
use Rattle.run_outcome.specs.Whole.{verdicts_under}
use Rattle.lane_composition.specs.Taken.{events_at, verdicts_in, AreOneRun, AreFrontsOfRun}
use Rattle.lane_composition.proofs.Streamed.{streamed_share, streamed_bytes}
use Rattle.lane_composition.proofs.Whole.{verdicts_numbered}

module _ (app : Meaning) (commands : List Command) (frames : List Captured) (vs : List ℕ) (frame_of : ℕ → Captured) (d : Arrival × Verdict) where
  abbrev js : List (Arrival × Verdict)
  js = verdicts_under app commands vs (arrivals 0 frames)

  all : take (length js) js ≡ js
  all = take_all (length js) js (omega arith)

  module _ (lane : EndpointPair → ℕ) (l : ℕ) where
    abbrev right : List Answer
    right = map (answer_at frame_of js d) (numbers_of_share (lane_in lane js d) l (length js))

    right_is : answers_to frame_of (judged_part lane l js) ≡ right
    right_is = sym (streamed_share frame_of js d (verdicts_numbered app commands vs frames) lane l (length js) (omega arith) ∙ ap (λ x. answers_to frame_of (judged_part lane l x)) all)

    pub answers_whole : (lanes : List (List LaneEvent)) → AreOneRun app commands lane (arrivals 0 frames) lanes vs → answers_to frame_of (verdicts_in app (events_at lanes l)) ≡ right
    answers_whole lanes one = ap (answers_to frame_of) (one.verdicts l) ∙ right_is

    pub answers_front : (lanes : List (List LaneEvent)) → AreFrontsOfRun app commands lane (arrivals 0 frames) lanes vs → IsPrefix (answers_to frame_of (verdicts_in app (events_at lanes l))) right
    answers_front lanes fronts =
        let front = fronts.verdicts l in (
          answers_to frame_of front.0,
          sym (map-append (λ (j : Arrival × Verdict). answer_to frame_of j.0.number j.1) (verdicts_in app (events_at lanes l)) front.0) ∙ ap (answers_to frame_of) front.1 ∙ right_is,
        )

  pub bytes_of_run : forwarded_numbers (answer_at frame_of js d) (length js) ≡ forwarded (frame_bytes frame_of) js
  bytes_of_run = streamed_bytes frame_of js d (verdicts_numbered app commands vs frames) (length js) (omega arith) ∙ ap (forwarded (frame_bytes frame_of)) all
