-- What a worker's lane answers to its packets.
use Rattle.std.proofs.Common.{◌≡◌, ◌<◌, ℕ, suc, ◌+◌, List, [], ◌∷◌, ◌++◌, length, get_or, refl, sym, ap, ◌∙◌, arith}
use Rattle.std.specs.List.{All}
use Rattle.std.proofs.lemmas.List.Elements.{All-nil, All-cons, All-head, All-tail, All-filter}
use Rattle.std.specs.Prelude.{◌==◌}
use mathlib.Core.List.{IsPrefix}
use Rattle.app_api.specs.App.{Meaning}
use Rattle.app_api.specs.declared.reaction.Verdict.{Verdict}
use Rattle.pcap_source.specs.Captured.{Captured}
use Rattle.control_script.specs.declared.stamped.Stamped.{Stamped}
use Rattle.lane_rings.specs.declared.items.Packet.{Packet}
use Rattle.lane_rings.specs.declared.items.Answer.{Answer}
use Rattle.lane_rings.specs.Judging.{answer_to}
use Rattle.lane_core.specs.Sight.{arrival_of}
use Rattle.lane_core.specs.Run.{LaneEvent, Gave, Arrived}
use Rattle.lane_core.specs.Lane.{next_verdict, with_event}
use Rattle.lane_composition.specs.Taken.{verdicts_behind}
use Rattle.lane_composition.specs.Streamed.{answers_to}
use Rattle.lane_worker.specs.Steps.{Step, Took, Handed, events_of, answers_of}
use Rattle.worker_pool.specs.Sent.{sent_as, packets_from, lane_of, dealt}
use Rattle.worker_pool.specs.Answered.{TellsFrames}
use Rattle.worker_pool.proofs.Handing.{handed}

module _ (frame_of : ℕ → Captured) where
  -- a packet has the frame of its number
  abbrev pub IsFramed : Packet → Type 0
  IsFramed p = frame_of p.index ≡ p.frame

  -- the packets of frames do
  all_framed : (script : List Stamped) (n : ℕ) (frames : List Captured) → ((i : ℕ) (d : Captured) → i < length frames → frame_of (n + i) ≡ get_or frames i d)
      → All IsFramed (packets_from script n frames)
  unfolding packets_from
  all_framed script n [] tells = All-nil IsFramed
  all_framed script n (frame ∷ frames) tells =
      let here : frame_of n ≡ frame = ap frame_of (let e : n ≡ n + 0 = omega arith in e) ∙ tells 0 frame (omega arith) in
      All-cons IsFramed (sent_as script n frame) (packets_from script (n + 1) frames) here
      (all_framed script (n + 1) frames (λ i d lt. ap frame_of (let e : n + 1 + i ≡ n + suc i = omega arith in e) ∙ tells (suc i) d (omega (arith, lt))))

  pub dealt_framed : (script : List Stamped) (lanes l : ℕ) (frames : List Captured) → TellsFrames frames frame_of → All IsFramed (dealt lanes l (packets_from script 0 frames))
  dealt_framed script lanes l frames tells =
      All-filter (λ p. lane_of lanes p == l) IsFramed (packets_from script 0 frames)
      (all_framed script 0 frames (λ i d lt. ap frame_of (let e : 0 + i ≡ i = omega arith in e) ∙ tells i d lt))

  framed_answer : (p : Packet) (v : Verdict) → IsFramed p → answer_to p v ≡ record { index = p.index; verdict = v; frame = frame_of p.index }
  framed_answer p v is = ap (λ (f : Captured). record { index = p.index; verdict = v; frame = f }) (sym is)

  module _ (app : Meaning) where
    -- the answers to the packets of these steps are those to what became of them
    pub answers_are : (before : List LaneEvent) (steps : List Step) → All IsFramed (handed steps) → answers_of app before steps ≡ answers_to frame_of (verdicts_behind app before (events_of steps))
    answers_are before [] framed = refl
    answers_are before (Took c ∷ steps) framed = answers_are (with_event (Gave c) before) steps framed
    answers_are before (Handed p ∷ steps) framed =
        let a = arrival_of p.index p.frame in
        let here = framed_answer p (next_verdict app before a) (All-head IsFramed p (handed steps) framed) in
        let rest = answers_are (with_event (Arrived a) before) steps (All-tail IsFramed p (handed steps) framed) in
        cc

    -- those to the first ones are the first of these
    pub answers_front : (before : List LaneEvent) (done bad : List Step) → All IsFramed (handed (done ++ bad))
        → IsPrefix (answers_of app before done) (answers_to frame_of (verdicts_behind app before (events_of (done ++ bad))))
    answers_front before [] bad framed = (_, refl)
    answers_front before (Took c ∷ done) bad framed = answers_front (with_event (Gave c) before) done bad framed
    answers_front before (Handed p ∷ done) bad framed =
        let a = arrival_of p.index p.frame in
        let here = framed_answer p (next_verdict app before a) (All-head IsFramed p (handed (done ++ bad)) framed) in
        let rest = answers_front (with_event (Arrived a) before) done bad (All-tail IsFramed p (handed (done ++ bad)) framed) in (
          rest.0,
          ap (λ (x : Answer). x ∷ (answers_of app (with_event (Arrived a) before) done ++ rest.0)) here
              ∙ ap (λ xs. record { index = p.index; verdict = next_verdict app before a; frame = frame_of p.index } ∷ xs) rest.1,
        )
