-- What a worker's lane stands for, once it has served its packets of a capture.
use Rattle.std.proofs.Common.{◌≡◌, ◌<◌, ◌≤◌, ℕ, Bool, true, Some, None, List, [], ◌++◌, length, map, drop, get_or, refl, sym, ap, subst, ◌∙◌, arith}
use Rattle.std.specs.List.{All}
use Rattle.std.proofs.lemmas.List.{append-nil, length-map, map-append}
use mathlib.Core.List.{IsPrefix}
use Rattle.pcap_source.specs.Captured.{Captured}
use Rattle.ip6_views.specs.Sight.{lane_of_sight}
use Rattle.app_api.specs.App.{Meaning}
use Rattle.control_script.specs.declared.stamped.Stamped.{Stamped}
use Rattle.control_script.specs.Order.{commands_of}
use Rattle.control_script.specs.Versions.{floor, ceil}
use Rattle.lane_rings.specs.declared.items.Packet.{Packet}
use Rattle.lane_core.specs.declared.errors.LaneError.TheVariants.{Heavy}
use Rattle.lane_core.specs.declared.recorder.Recorder.{Ghosts}
use Rattle.lane_core.specs.Sight.{arrivals, sight_of}
use Rattle.lane_core.specs.Run.{LaneEvent, versioned_from, commands_of as given_in}
use Rattle.lane_core.specs.Lane.{IsHeavy}
use Rattle.lane_composition.specs.Allowed.{arrivals_of, IsWithin}
use Rattle.lane_composition.specs.Lanes.{share}
use Rattle.run_outcome.specs.Lanes.{lane_of}
use Rattle.lane_composition.specs.Taken.{verdicts_in}
use Rattle.lane_composition.specs.Streamed.{answers_to}
use Rattle.lane_worker.specs.declared.worker.Worker.{Worker}
use Rattle.lane_worker.specs.Steps.{Step, steps_of, events_of, answers_of, AreWithin}
use Rattle.lane_rings.specs.Batch.{packets_in}
use Rattle.lane_worker.specs.Worked.{Ran, Sends, at_hand}
use Rattle.worker_pool.specs.Sent.{packets_from, dealt}
use Rattle.worker_pool.specs.Team.{IsNew, HasServed}
use Rattle.worker_pool.specs.Ending.{by_key}
use Rattle.worker_pool.specs.Answered.{HasAnswered}
use Rattle.worker_pool.proofs.Answering.{IsFramed, dealt_framed, answers_are, answers_front}
use Rattle.lane_worker.proofs.Composed.{by_failure}
use Rattle.lane_worker.proofs.Fronts.{IsPrefix-refl}
use Rattle.worker_pool.proofs.Handing.{handed, arrival_in, AreInTurn, handed_front, handed_whole, arrivals-handed, arrive_within, IsMarked, All-front}
use Rattle.worker_pool.proofs.Dealing.{AreOrdered, dealt_marked, dealt_in_turn, dealt_is_share}

pub IsPrefix-map : {A B : Type 0} (f : A → B) (xs ys : List A) → IsPrefix xs ys → IsPrefix (map f xs) (map f ys)
IsPrefix-map f xs ys p = (map f p.0, sym (map-append f xs p.0) ∙ ap (map f) p.1)

module _ {L : Type 0} (g : Ghosts L) (keep : Bool) (app : Meaning) (script : List Stamped) (frames : List Captured) (lanes l : ℕ) where
  -- the events that a lane stands for: commands of the script, and packets of its share
  pub record HasCome (lane : L) (events : List LaneEvent) : Type 0 where
    pub app_is : g.app lane ≡ app
    pub keeps : g.keeps lane ≡ keep
    pub stands : g.stands lane events
    pub commands : IsPrefix (given_in events) (commands_of script)
    pub packets : IsPrefix (arrivals_of (versioned_from 0 events)) (share (by_key lanes) l (arrivals 0 frames))
    pub within : All (λ p. IsWithin (floor script) (ceil script) p.version p.arrival.number) (versioned_from 0 events)
    pub whole : g.failed lane ≡ None → arrivals_of (versioned_from 0 events) ≡ share (by_key lanes) l (arrivals 0 frames)
    pub heavy : g.failed lane ≡ Some Heavy → (keep ≡ true) × IsHeavy app events

  module _ (ordered : AreOrdered script) (few : length frames ≤ 1048576) (dealt_by_key : (frame : List ℕ) → lane_of (by_key lanes) (sight_of frame) ≡ lane_of_sight (sight_of frame) lanes) where
    abbrev its : List Packet
    its = dealt lanes l (packets_from script 0 frames)

    module _ (a b : Worker L) (new : IsNew g app a) (kept : g.keeps a.lane ≡ keep) (served : HasServed g (commands_of script) a its b) where
      abbrev ran : Ran g (commands_of script) a b (packets_in served.worked.batches) served.worked.places
      ran = served.worked.ran new.failed

      abbrev steps : List Step
      steps = ran.done ++ ran.bad

      abbrev all_steps : List Step
      all_steps = steps_of (length script) None 0 ran.turns

      -- its turns are those of its packets
      its_turns : map (λ t. t.packet) ran.turns ≡ its
      its_turns = ran.of_packets ∙ ap (λ l. packets_in (l ++ served.worked.batches)) (sym new.packets) ∙ ap packets_in (sym served.worked.took_packets.gone) ∙ served.took

      in_turn : AreInTurn (length script) None 0 (map (λ t. t.packet) ran.turns)
      in_turn = subst (AreInTurn (length script) None 0) (sym its_turns) (dealt_in_turn script ordered lanes l 0 0 None frames (omega arith) (λ m at. refl) (omega arith))

      from_new : steps_of (length (commands_of script)) (g.last a.lane) (g.given a.lane) ran.turns ≡ all_steps
      from_new =
          ap (λ n. steps_of n (g.last a.lane) (g.given a.lane) ran.turns) (length-map script (λ s. s.command))
          ∙ ap (λ o. steps_of (length script) o (g.given a.lane) ran.turns) new.last
          ∙ ap (λ v. steps_of (length script) None v ran.turns) new.given

      steps_whole : g.failed b.lane ≡ None → steps ≡ all_steps
      steps_whole good = ap (λ x. ran.done ++ x) (ran.went.good good) ∙ append-nil ran.done ∙ ran.went.whole good ∙ from_new

      steps_front : IsPrefix steps all_steps
      steps_front = by_failure (g.failed b.lane)
          (λ good. subst (IsPrefix steps) (steps_whole good) (IsPrefix-refl steps))
          (λ bad. subst (IsPrefix steps) from_new (ran.went.front bad))

      steps_within : AreWithin (at_hand g a) 0 steps
      steps_within = subst (λ v. AreWithin (at_hand g a) v steps) new.given ran.went.within

      handed_of_its : IsPrefix (handed steps) its
      handed_of_its = subst (IsPrefix (handed steps)) its_turns (handed_front (at_hand g a) (length script) None 0 0 ran.turns steps in_turn (omega arith) steps_front steps_within)

      handed_all : g.failed b.lane ≡ None → handed steps ≡ its
      handed_all good =
          ap handed (steps_whole good)
          ∙ handed_whole (at_hand g a) (length script) None 0 0 ran.turns in_turn (omega arith) (subst (AreWithin (at_hand g a) 0) (steps_whole good) steps_within)
          ∙ its_turns

      its_share : map arrival_in its ≡ share (by_key lanes) l (arrivals 0 frames)
      its_share = dealt_is_share lanes l dealt_by_key script 0 frames

      arrived : arrivals_of (versioned_from 0 (events_of steps)) ≡ map arrival_in (handed steps)
      arrived = arrivals-handed 0 steps

      abbrev pub came_events : List LaneEvent
      came_events = events_of steps

      pub has_come : HasCome b.lane came_events
      has_come = record {
        app_is = served.worked.app ∙ new.app_is;
        keeps = served.worked.keeps ∙ kept;
        stands = ran.went.stands [] new.stands;
        commands = subst (λ v. IsPrefix (given_in (events_of steps)) (drop v (commands_of script))) new.given ran.went.commands;
        packets = subst (λ x. IsPrefix x (share (by_key lanes) l (arrivals 0 frames))) (sym arrived)
            (subst (IsPrefix (map arrival_in (handed steps))) its_share (IsPrefix-map arrival_in (handed steps) its handed_of_its));
        within = arrive_within (floor script) (ceil script) (at_hand g a) 0 steps steps_within
            (All-front (IsMarked (floor script) (ceil script)) (handed steps) its handed_of_its (dealt_marked script lanes l 0 frames));
        whole = λ good. arrived ∙ ap (map arrival_in) (handed_all good) ∙ its_share;
        heavy = λ is. (sym kept ∙ ran.went.keeping is, subst (λ (m : Meaning). IsHeavy m (events_of steps)) new.app_is (ran.went.heavy is [] new.stands));
      }

      framed : (frame_of : ℕ → Captured) → ((i : ℕ) (d : Captured) → i < length frames → frame_of i ≡ get_or frames i d) → All (IsFramed frame_of) (handed steps)
      framed frame_of tells = All-front (IsFramed frame_of) (handed steps) its handed_of_its (dealt_framed frame_of script lanes l frames tells)

      pub has_answered : HasAnswered g app frames came_events a b
      has_answered = record {
        answers = answers_of app [] ran.done;
        sends = subst (λ (m : Meaning). Sends a.answers b.answers (answers_of m [] ran.done)) new.app_is (ran.answers [] new.stands);
        front = λ frame_of tells. answers_front frame_of app [] ran.done ran.bad (framed frame_of tells);
        whole = λ frame_of tells good.
            let no_bad : ran.done ++ ran.bad ≡ ran.done = ap (λ x. ran.done ++ x) (ran.went.good good) ∙ append-nil ran.done in
            answers_are frame_of app [] ran.done (subst (λ x. All (IsFramed frame_of) (handed x)) no_bad (framed frame_of tells))
            ∙ ap (λ x. answers_to frame_of (verdicts_in app (events_of x))) (sym no_bad);
      }
