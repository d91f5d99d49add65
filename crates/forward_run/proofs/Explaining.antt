-- What has left a forward run, by the answers of its lanes.
use Rattle.std.proofs.Common.{◌≡◌, ◌<◌, ◌≤◌, ℕ, zero, suc, ◌+◌, Bool, Option, Some, None, List, [], ◌∷◌, ◌++◌, length, map, get_or, refl, sym, ap, subst, ◌∙◌, ⊎_elim, arith}
use Rattle.std.specs.Prelude.{◌==◌}
use Rattle.std.specs.Io.KnownBytes.{Appends}
use Rattle.std.proofs.lemmas.Bool.{cases_lt}
use Rattle.std.proofs.lemmas.List.{length-map, get_or-map, get_or_default, get_or_past, get_or_append_left}
use Rattle.std.proofs.lemmas.List.Elements.{filter-append}
use mathlib.Core.List.{IsPrefix}
use Rattle.mos_bytes.specs.Writes.{AppendsFront}
use Rattle.app_api.specs.App.{Meaning}
use Rattle.app_api.specs.declared.reaction.Verdict.{Verdict}
use Rattle.app_api.specs.declared.reaction.Verdict.TheVariants.{Pass, Drop}
use Rattle.pcap_source.specs.Captured.{Captured}
use Rattle.ip6_views.specs.Sight.{lane_of_sight}
use Rattle.flow_table.specs.Key.{EndpointPair}
use Rattle.forest_versions.specs.declared.command.Command.{Command}
use Rattle.control_script.specs.declared.stamped.Stamped.{Stamped}
use Rattle.control_script.specs.Order.{commands_of}
use Rattle.lane_rings.specs.declared.items.Answer.{Answer}
use Rattle.lane_rings.specs.declared.items.AnswerBatch.{AnswerBatch}
use Rattle.lane_rings.specs.declared.ring.RingTx.{RingTx}
use Rattle.lane_rings.specs.Answers.{answers_in}
use Rattle.lane_rings.specs.Ring.{sent}
use Rattle.lane_composition.specs.Share.{share as numbers_of_share}
use Rattle.lane_composition.specs.Forwarded.{forwarded as forwarded_numbers}
use Rattle.run_outcome.specs.Forwarded.{bytes_under as captured_under}
use Rattle.lane_composition.specs.Forward.{HaveLeft, HasLeft}
use Rattle.lane_core.specs.declared.recorder.Recorder.{Ghosts}
use Rattle.lane_core.specs.Sight.{Arrival, arrivals, arrival_of, sight_of}
use Rattle.lane_core.specs.Run.{LaneEvent}
use Rattle.lane_composition.specs.Judged.{forwarded, bytes_under}
use Rattle.lane_composition.specs.Lanes.{share}
use Rattle.run_outcome.specs.Lanes.{lane_of}
use Rattle.lane_composition.specs.Allowed.{arrivals_of}
use Rattle.run_outcome.specs.Whole.{verdicts_under}
use Rattle.lane_composition.specs.Taken.{packets_at, events_at, verdicts_in, HaveRun, HaveRunAll}
use Rattle.lane_composition.specs.Streamed.{answers_to, answer_at, lane_in, frame_bytes}
use Rattle.lane_worker.specs.declared.worker.Worker.{Worker}
use Rattle.forward_dispatch.specs.declared.lane_answers.LaneAnswers.{LaneAnswers}
use Rattle.lane_worker.specs.Worked.{Sends}
use Rattle.worker_pool.specs.Ending.{by_key, CameTo}
use Rattle.run_outcome.specs.Forwarded.{left_by_all, forwarded_with}
use Rattle.forward_dispatch.specs.Streamed.{IsAnswered, AreLaneAnswers, lane_at}
use Rattle.forward_dispatch.specs.Compared.{sent_in, sent_from}
use Rattle.worker_pool.specs.Answered.{TellsFrames, HasAnswered, HaveAnswered}
use Rattle.forward_run.specs.Explained.{AreGood}
use Rattle.lane_worker.proofs.Fronts.{IsPrefix-refl, IsPrefix-trans}

-- ---- fronts

module _ {A : Type 0} where
  front_at : (xs ys : List A) (i : ℕ) (d : A) → IsPrefix xs ys → i < length xs → get_or ys i d ≡ get_or xs i d
  front_at xs ys i d p lt = ap (λ l. get_or l i d) (sym p.1) ∙ get_or_append_left xs p.0 d i lt

  front_length : (xs ys : List A) → IsPrefix xs ys → length xs ≤ length ys
  front_length [] ys p = omega arith
  front_length (x ∷ xs) [] p = absurd (let e = p.1 in cc)
  front_length (x ∷ xs) (y ∷ ys) p = let le = front_length xs ys (p.0, (let e = p.1 in cc)) in omega (arith, le)

  pub front_of_same : (xs ys : List A) → xs ≡ ys → IsPrefix xs ys
  front_of_same xs ys same = subst (IsPrefix xs) same (IsPrefix-refl xs)

-- ---- packets of frames

arrivals-append : (n : ℕ) (frames more : List Captured) → arrivals n (frames ++ more) ≡ arrivals n frames ++ arrivals (n + length frames) more
arrivals-append n [] more = ap (λ k. arrivals k more) (let e : n ≡ n + 0 = omega arith in e)
arrivals-append n (frame ∷ frames) more =
    ap (λ l. arrival_of n frame ∷ l)
    (arrivals-append (n + 1) frames more ∙ ap (λ k. arrivals (n + 1) frames ++ arrivals k more) (let e : n + 1 + length frames ≡ n + suc (length frames) = omega arith in e))

arrival_at : (n : ℕ) (frames : List Captured) (i : ℕ) (d : Arrival) (e : Captured) → i < length frames → get_or (arrivals n frames) i d ≡ arrival_of (n + i) (get_or frames i e)
arrival_at n [] i d e lt = absurd (omega (arith, lt))
arrival_at n (frame ∷ frames) zero d e lt = ap (λ k. arrival_of k frame) (let e : n ≡ n + 0 = omega arith in e)
arrival_at n (frame ∷ frames) (suc i) d e lt =
    arrival_at (n + 1) frames i d e (omega (arith, lt)) ∙ ap (λ k. arrival_of k (get_or frames i e)) (let e : n + 1 + i ≡ n + suc i = omega arith in e)

arrivals_count : (n : ℕ) (frames : List Captured) → length (arrivals n frames) ≡ length frames
arrivals_count n [] = refl
arrivals_count n (frame ∷ frames) = ap suc (arrivals_count (n + 1) frames)

-- what lanes ran of a front is what they ran of all
pub more_packets : (least most : ℕ → ℕ) (commands : List Command) (lane : EndpointPair → ℕ) (frames told : List Captured) (lanes : List (List LaneEvent)) → IsPrefix frames told
    → HaveRun least most commands lane (arrivals 0 frames) lanes → HaveRun least most commands lane (arrivals 0 told) lanes
more_packets least most commands lane frames told lanes p run = record {
  all = run.all;
  commands_are = run.commands_are;
  packets_are = λ l lt. IsPrefix-trans (arrivals_of (packets_at lanes l)) (share lane l (arrivals 0 frames)) (share lane l (arrivals 0 told)) (run.packets_are l lt) (
    share lane l (arrivals (0 + length frames) p.0),
    sym (filter-append (λ a. lane_of lane a.sight == l) (arrivals 0 frames) (arrivals (0 + length frames) p.0))
        ∙ ap (share lane l) (sym (arrivals-append 0 frames p.0) ∙ ap (arrivals 0) p.1),
  );
  within = run.within;
}

-- ---- bytes

bytes_same : (v : Verdict) (frame : Captured) (f : Captured) → f ≡ frame → bytes_under v (f.head ++ f.bytes) ≡ captured_under v frame
bytes_same Pass frame f is = ap (λ (x : Captured). x.head ++ x.bytes) is
bytes_same (Drop reason) frame f is = refl

-- what judged packets leave is what the frames leave
left_is : (frame_of : ℕ → Captured) (n : ℕ) (js : List (Arrival × Verdict)) (frames : List Captured) → map (λ j. j.0) js ≡ arrivals n frames
    → ((i : ℕ) (d : Captured) → i < length frames → frame_of (n + i) ≡ get_or frames i d) → forwarded (frame_bytes frame_of) js ≡ left_by_all js frames
unfolding left_by_all
left_is frame_of n [] frames same tells = refl
left_is frame_of n (j ∷ js) [] same tells = absurd (cc)
left_is frame_of n (j ∷ js) (frame ∷ frames) same tells =
    let first : j.0 ≡ arrival_of n frame = cc in
    let others : map (λ j. j.0) js ≡ arrivals (n + 1) frames = cc in
    let its : frame_of j.0.number ≡ frame = ap (λ (a : Arrival). frame_of a.number) first ∙ ap frame_of (let e : n ≡ n + 0 = omega arith in e) ∙ tells 0 frame (omega arith) in
    let rest = left_is frame_of (n + 1) js frames others (λ i d lt. ap frame_of (let e : n + 1 + i ≡ n + suc i = omega arith in e) ∙ tells (suc i) d (omega (arith, lt))) in
    ap (λ bs. bs ++ forwarded (frame_bytes frame_of) js) (bytes_same j.1 frame (frame_of j.0.number) its) ∙ ap (λ bs. captured_under j.1 frame ++ bs) rest

-- ---- what was sent

any_of : {A : Type 0} (xs : List A) (k : ℕ) → k < length xs → A
any_of [] k lt = absurd (omega (arith, lt))
any_of (x ∷ xs) k lt = x

-- into a ring into which nothing was sent before
all_sent : (a b : Option (RingTx AnswerBatch)) (ring : RingTx AnswerBatch) (xs : List Answer) → a ≡ Some ring → sent ring ≡ [] → Sends a b xs → sent_in b ≡ xs
all_sent None b ring xs is none sends = absurd (cc)
all_sent (Some a) None ring xs is none sends = absurd sends
all_sent (Some a) (Some b) ring xs is none sends =
    let same : a ≡ ring = cc in
    sends.1 ∙ ap (λ batches. answers_in batches ++ xs) (ap (λ (tx : RingTx AnswerBatch). sent tx) same ∙ none)

-- ---- what has left

-- packets that have left by these lanes have left by others that are the same for all packets that were sent
pub left_by_others : (lane other : ℕ → ℕ) (n : ℕ) (given : ℕ → List Answer) (old new : Option (List ℕ))
    → ((m : ℕ) → m ≤ n → (l : ℕ) → numbers_of_share other l m ≡ numbers_of_share lane l m) → HasLeft lane n given old new → HasLeft other n given old new
left_by_others lane other n given old new shares h = record {
  left = h.left;
  within = h.within;
  counted = λ l. h.counted l ∙ ap length (sym (shares h.left h.within l));
  front = λ answer of. h.front answer (λ l. of l ∙ ap (map answer) (shares h.left h.within l));
}

abbrev pub blank : Captured
blank = record { seconds = 0; fraction = 0; original = 0; head = []; bytes = [] }

abbrev pub past : Arrival × Verdict
past = (arrival_of 0 blank, Pass)

-- lanes that have not failed ran all
pub ran_all : {L : Type 0} (g : Ghosts L) (keep : Bool) (app : Meaning) (script : List Stamped) (frames : List Captured) (workers : List (Worker L)) (lanes : List (List LaneEvent))
    → CameTo g keep app script frames workers lanes → AreGood g workers → HaveRunAll (by_key (length workers)) (arrivals 0 frames) lanes
ran_all g keep app script frames workers lanes came good l lt =
    let below : l < length workers = (let e = came.count in omega (arith, e, lt)) in
    let w = any_of workers l below in
    came.whole l w below (good l w below)

-- ---- where these are the verdicts of a run over the frames that are told

module _ {L : Type 0} (g : Ghosts L) (app : Meaning) (script : List Stamped) (frames told : List Captured) (begins workers : List (Worker L)) (all_answers : List LaneAnswers)
    (lanes : List (List LaneEvent))
    (behind : IsPrefix frames told) (answered : HaveAnswered g app frames begins workers lanes) (are : AreLaneAnswers begins all_answers) (count : length begins ≡ length workers) (vs : List ℕ) where
  abbrev pub js : List (Arrival × Verdict)
  js = verdicts_under app (commands_of script) vs (arrivals 0 told)

  abbrev pub frame_at : ℕ → Captured
  frame_at i = get_or told i blank

  abbrev pub right : ℕ → Answer
  right = answer_at frame_at js past

  abbrev pub by_verdicts : ℕ → ℕ
  by_verdicts = lane_in (by_key (length workers)) js past

  abbrev pub by_frames : ℕ → ℕ
  by_frames = lane_at (length workers) frames

  abbrev pub answers_from : ℕ → List Answer
  answers_from l = answers_to frame_at (verdicts_in app (events_at lanes l))

  told_tells : TellsFrames told frame_at
  told_tells i d lt = get_or_default told i blank d lt

  tells : TellsFrames frames frame_at
  tells i d lt = told_tells i d (let le = front_length frames told behind in omega (arith, le, lt)) ∙ front_at frames told i d behind lt

  -- ---- what each worker sent

  module _ (l : ℕ) (lt : l < length workers) where
    abbrev one : Worker L
    one = any_of workers l lt

    its : HasAnswered g app frames (events_at lanes l) (get_or begins l one) (get_or workers l one)
    its = answered l one one lt

    its_lane_answers : IsAnswered (get_or begins l one) (get_or all_answers l (any_of all_answers l (let e = are.count in omega (arith, e, count, lt))))
    its_lane_answers = are.answered l one (any_of all_answers l (let e = are.count in omega (arith, e, count, lt))) (let e = are.count in omega (arith, e, count, lt))

    its_sent : sent_from workers l ≡ its.answers
    its_sent =
        get_or-map (λ (w : Worker L). sent_in w.answers) workers l one [] lt
        ∙ all_sent (get_or begins l one).answers (get_or workers l one).answers its_lane_answers.ring its.answers its_lane_answers.answers its_lane_answers.unsent its.sends

  none_sent : (l : ℕ) → length workers ≤ l → sent_from workers l ≡ []
  none_sent l past_end = get_or_past (map (λ (w : Worker L). sent_in w.answers) workers) l [] (let e = length-map workers (λ (w : Worker L). sent_in w.answers) in omega (arith, e, past_end))

  sent_front : (l : ℕ) → IsPrefix (sent_from workers l) (answers_from l)
  sent_front l = ⊎_elim
      (λ lt. subst (λ xs. IsPrefix xs (answers_from l)) (sym (its_sent l lt)) ((its l lt).front frame_at tells))
      (λ ge. subst (λ xs. IsPrefix xs (answers_from l)) (sym (none_sent l ge)) (answers_from l, refl))
      (cases_lt l (length workers))

  -- ---- the lane of each packet

  module _ (all_judged : map (λ j. j.0) js ≡ arrivals 0 told)
      (dealt_by_key : (frame : List ℕ) → lane_of (by_key (length workers)) (sight_of frame) ≡ lane_of_sight (sight_of frame) (length workers)) where
    pub js_count : length js ≡ length told
    js_count = sym (length-map js (λ j. j.0)) ∙ ap length all_judged ∙ arrivals_count 0 told

    sent_are_told : length frames ≤ length js
    sent_are_told = let le = front_length frames told behind in let e = js_count in omega (arith, le, e)

    judged_at : (i : ℕ) → i < length told → (get_or js i past).0 ≡ arrival_of (0 + i) (get_or told i blank)
    judged_at i lt =
        sym (get_or-map (λ (j : Arrival × Verdict). j.0) js i past past.0 (let e = js_count in omega (arith, e, lt)))
        ∙ ap (λ l. get_or l i past.0) all_judged ∙ arrival_at 0 told i past.0 blank lt

    pub same_lanes : (i : ℕ) → i < length frames → by_verdicts i ≡ by_frames i
    same_lanes i lt =
        let among : i < length told = (let le = front_length frames told behind in omega (arith, le, lt)) in
        ap (λ (a : Arrival). lane_of (by_key (length workers)) a.sight) (judged_at i among)
        ∙ dealt_by_key (get_or told i blank).bytes
        ∙ ap (λ (f : Captured). lane_of_sight (sight_of f.bytes) (length workers)) (front_at frames told i blank behind lt)
        ∙ sym (get_or-map (λ (f : Captured). lane_of_sight (sight_of f.bytes) (length workers)) frames i blank 0 lt)

    told_bytes : forwarded_numbers right (length js) ≡ forwarded (frame_bytes frame_at) js → forwarded_numbers right (length js) ≡ forwarded_with app script vs told
    told_bytes law = law ∙ left_is frame_at 0 js told all_judged (λ i d lt. ap frame_at (let e : 0 + i ≡ i = omega arith in e) ∙ told_tells i d lt)

    -- ---- what has left

    module _ (given : ℕ → List Answer) (old new : Option (List ℕ)) (are_sent : (l : ℕ) → IsPrefix (given l) (sent_from workers l))
        (right_answers : (l : ℕ) → IsPrefix (answers_from l) (map right (numbers_of_share by_verdicts l (length js))))
        (bytes : forwarded_numbers right (length js) ≡ forwarded (frame_bytes frame_at) js) where
      -- the answers by which packets have left are the first of the right ones
      given_front : (l : ℕ) → IsPrefix (given l) (map right (numbers_of_share by_verdicts l (length js)))
      given_front l =
          IsPrefix-trans (given l) (answers_from l) (map right (numbers_of_share by_verdicts l (length js)))
          (IsPrefix-trans (given l) (sent_from workers l) (answers_from l) (are_sent l) (sent_front l)) (right_answers l)

      -- a front was written
      pub left_front : ((n : ℕ) → ((i : ℕ) → i < n → by_verdicts i ≡ by_frames i) → (l : ℕ) → numbers_of_share by_verdicts l n ≡ numbers_of_share by_frames l n)
          → (length frames ≤ length js → ((l : ℕ) → IsPrefix (given l) (map right (numbers_of_share by_verdicts l (length js)))) → HasLeft by_verdicts (length frames) given old new
          → AppendsFront old new (forwarded_numbers right (length js)))
          → HasLeft by_frames (length frames) given old new → AppendsFront old new (forwarded_with app script vs told)
      left_front share_law front_law h =
          subst (AppendsFront old new) (told_bytes bytes)
          (front_law sent_are_told given_front
          (left_by_others by_frames by_verdicts (length frames) given old new (λ m le l. share_law m (λ i lt. same_lanes i (omega (arith, lt, le))) l) h))

      -- all was written
      pub left_all : length js ≡ length frames
          → (((l : ℕ) → IsPrefix (given l) (map right (numbers_of_share by_verdicts l (length frames)))) → HaveLeft by_frames (length frames) given old new
          → Appends old new (forwarded_numbers right (length frames)))
          → HaveLeft by_frames (length frames) given old new → Appends old new (forwarded_with app script vs told)
      left_all n_told all_law h =
          subst (Appends old new) (ap (forwarded_numbers right) (sym n_told) ∙ told_bytes bytes)
          (all_law (λ l. subst (λ n. IsPrefix (given l) (map right (numbers_of_share by_verdicts l n))) n_told (given_front l)) h)
