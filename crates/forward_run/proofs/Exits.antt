-- How a forward run ends.
use Rattle.std.proofs.Common.{◌≡◌, ◌≢◌, ◌<◌, ℕ, Bool, false, Option, Some, None, List, [], ◌∷◌, length, map, get_or, refl, sym, ap, subst, ◌∙◌, ◌⊎◌, inl, inr, ⊎_elim, arith}
use Rattle.std.specs.Prelude.{Result, Ok, Err, IsOk, IfOk, IfErr}
use Rattle.std.proofs.Math.ListN.{get_or-map}
use Rattle.std.proofs.lemmas.List.{length-map}
use mathlib.Core.List.{IsPrefix}
use Rattle.app_api.specs.App.{Meaning}
use Rattle.pcap_source.specs.Captured.{Captured}
use Rattle.pcap_source.specs.Reading.{CaptureState, frames_at}
use Rattle.control_script.specs.declared.stamped.Stamped.{Stamped}
use Rattle.control_script.specs.Order.{commands_of}
use Rattle.control_script.specs.Versions.{floor, ceil}
use Rattle.lane_rings.specs.declared.items.AnswerBatch.{AnswerBatch}
use Rattle.lane_rings.specs.declared.ring.RingTx.{RingTx}
use Rattle.lane_rings.specs.declared.ring.RingRx.{RingRx}
use Rattle.lane_rings.specs.Ring.{AreEnds, SameTx}
use Rattle.lane_composition.specs.Forward.{HaveLeft, HasLeft}
use Rattle.lane_core.specs.declared.end.KeptEnd.{KeptEnd}
use Rattle.lane_core.specs.declared.under_way.RecordUnderWay.{RecordUnderWay}
use Rattle.lane_core.specs.KeptEnd.{shown_as}
use Rattle.lane_core.specs.declared.recorder.Recorder.{Ghosts}
use Rattle.lane_core.specs.Sight.{Moment, arrivals}
use Rattle.lane_core.specs.Records.{RecordSoFar}
use Rattle.lane_core.specs.Run.{LaneEvent}
use Rattle.lane_core.specs.Lane.{shown}
use Rattle.run_outcome.specs.Greatest.{greatest}
use Rattle.lane_composition.specs.Lanes.{share as share_of}
use Rattle.lane_composition.specs.Ends.{IsJoined}
use Rattle.lane_composition.specs.Taken.{events_at, HaveRun, AreOneRun}
use Rattle.lane_worker.specs.declared.worker.Worker.{Worker}
use Rattle.worker_pool.specs.declared.team.dispatch.Whole.{Whole}
use Rattle.forward_dispatch.specs.declared.lane_answers.LaneAnswers.{LaneAnswers}
use Rattle.worker_pool.specs.declared.job.PoolError.{PoolError}
use Rattle.worker_pool.specs.declared.job.PoolError.TheVariants.{TooLong, TooMany, ReadFault, WriteFault, Heavy, NoMemory}
use Rattle.lane_worker.specs.Worked.{SameAnswers}
use Rattle.worker_pool.specs.Team.{HaveServed}
use Rattle.run_outcome.specs.Allowed.{MayHave}
use Rattle.worker_pool.specs.Ending.{by_key, CameTo, AreEnded, IsCause}
use Rattle.forward_run.specs.Forward.{RefusedAs, ForwardsAll, ForwardsFront, ForwardsOver}
use Rattle.forward_dispatch.specs.Streamed.{AreLaneAnswers, Streamed, StopsAs, lane_at}
use Rattle.forward_dispatch.specs.Given.{given_from}
use Rattle.forward_dispatch.specs.Compared.{AreAnswerEnds, AreBeside, sent_from}
use Rattle.forward_run.specs.Explained.{AreGood, LeavesFront, LeavesAll}
use Rattle.worker_pool.proofs.Concluding.{versions_stay}
use Rattle.lane_worker.proofs.Rings.{SameRx-refl}
use Rattle.lane_worker.proofs.Beside.{ends_after}

any_of : {A : Type 0} (xs : List A) (k : ℕ) → k < length xs → A
any_of [] k lt = absurd (omega (arith, lt))
any_of (x ∷ xs) k lt = x

-- ---- the versions

versions_shown : (keep : Bool) (app : Meaning) (run : List RecordSoFar) → map (λ r. r.version) (map (shown keep app) run) ≡ map (λ r. r.version) run
versions_shown keep app [] = refl
versions_shown keep app (r ∷ run) = ap (λ l. r.version ∷ l) (versions_shown keep app run)

pub versions_joined : (keep : Bool) (app : Meaning) (run : List RecordSoFar) (vs versions : List ℕ) (kept seen : List RecordUnderWay) (callbacks weighs drops : ℕ) → IsJoined keep app run (shown_as app kept) callbacks weighs drops
    → map (λ r. r.version) run ≡ vs → seen ≡ kept → versions ≡ map (λ r. r.version) seen → versions ≡ vs
versions_joined keep app run vs versions kept seen callbacks weighs drops joined named same are =
    are ∙ ap (map (λ r. r.version)) same ∙ sym (versions_stay app kept) ∙ ap (map (λ r. r.version)) joined.records_are ∙ versions_shown keep app run ∙ named

module _ {L : Type 0} (g : Ghosts L) (last : Option Moment) where
  -- lanes that ended have not failed
  pub good_ended : (workers : List (Worker L)) (ends : List KeptEnd) → AreEnded g last workers ends → AreGood g workers
  good_ended workers ends ended k w lt =
      let among : k < length ends = (let e = ended.count in omega (arith, e, lt)) in
      (ended.each k w (any_of ends k among) lt).good

  -- why lanes that keep no entries don't end
  pub not_heavy : (app : Meaning) (script : List Stamped) (frames : List Captured) (workers : List (Worker L)) (lanes : List (List LaneEvent)) (e : PoolError)
      → CameTo g false app script frames workers lanes
      → (e ≡ NoMemory) ⊎ ((k : ℕ) × (k < length workers) × ((w : Worker L) → IsCause g last (get_or workers k w) e)) → e ≡ NoMemory
  not_heavy app script frames workers lanes NoMemory came why = refl
  not_heavy app script frames workers lanes Heavy came why = ⊎_elim
      (λ is. is)
      (λ one.
      let w = any_of workers one.0 one.1 in
      ⊎_elim
      (λ failed. let kept = (came.heavy one.0 w one.1 failed).0 in absurd (cc))
      (λ ends. let kept = sym (came.keeps one.0 w one.1) ∙ ends.keeps in absurd (cc))
      (one.2 w))
      why
  not_heavy app script frames workers lanes ReadFault came why = ⊎_elim (λ is. is) (λ one. absurd (one.2 (any_of workers one.0 one.1))) why
  not_heavy app script frames workers lanes WriteFault came why = ⊎_elim (λ is. is) (λ one. absurd (one.2 (any_of workers one.0 one.1))) why
  not_heavy app script frames workers lanes (TooLong offset) came why = ⊎_elim (λ is. is) (λ one. absurd (one.2 (any_of workers one.0 one.1))) why
  not_heavy app script frames workers lanes (TooMany offset) came why = ⊎_elim (λ is. is) (λ one. absurd (one.2 (any_of workers one.0 one.1))) why

  pub why_none : (workers : List (Worker L)) (e : PoolError) → (e ≡ NoMemory) ⊎ ((k : ℕ) × (k < length workers) × ((w : Worker L) → IsCause g last (get_or workers k w) e))
      → (e ≡ NoMemory) ⊎ (e ≡ Heavy)
  why_none workers NoMemory why = inl refl
  why_none workers Heavy why = inr refl
  why_none workers ReadFault why = ⊎_elim (λ is. inl is) (λ one. absurd (one.2 (any_of workers one.0 one.1))) why
  why_none workers WriteFault why = ⊎_elim (λ is. inl is) (λ one. absurd (one.2 (any_of workers one.0 one.1))) why
  why_none workers (TooLong offset) why = ⊎_elim (λ is. inl is) (λ one. absurd (one.2 (any_of workers one.0 one.1))) why
  why_none workers (TooMany offset) why = ⊎_elim (λ is. inl is) (λ one. absurd (one.2 (any_of workers one.0 one.1))) why

-- ---- workers with the same lanes

module _ {L : Type 0} (g : Ghosts L) where
  module _ (workers after : List (Worker L)) (same : map (λ w. w.lane) after ≡ map (λ w. w.lane) workers) where
    pub same_count : length after ≡ length workers
    same_count = sym (length-map after (λ w. w.lane)) ∙ ap length same ∙ length-map workers (λ w. w.lane)

    same_lane : (k : ℕ) (w : Worker L) → (get_or after k w).lane ≡ (get_or workers k w).lane
    same_lane k w = sym (get_or-map (λ (x : Worker L). x.lane) after k w) ∙ ap (λ l. get_or l k w.lane) same ∙ get_or-map (λ (x : Worker L). x.lane) workers k w

    before : (k : ℕ) → k < length after → k < length workers
    before k lt = let e = same_count in omega (arith, e, lt)

    pub good_before : AreGood g after → AreGood g workers
    good_before good k w lt = ap g.failed (sym (same_lane k w)) ∙ good k w (let e = same_count in omega (arith, e, lt))

    pub came_after : (keep : Bool) (app : Meaning) (script : List Stamped) (frames : List Captured) (lanes : List (List LaneEvent)) → CameTo g keep app script frames workers lanes
        → CameTo g keep app script frames after lanes
    came_after keep app script frames lanes came = record {
      count = came.count ∙ sym same_count;
      run = subst (λ n. HaveRun (floor script) (ceil script) (commands_of script) (by_key n) (arrivals 0 frames) lanes) (sym same_count) came.run;
      app_is = λ k w lt. ap g.app (same_lane k w) ∙ came.app_is k w (before k lt);
      keeps = λ k w lt. ap g.keeps (same_lane k w) ∙ came.keeps k w (before k lt);
      stands = λ k w lt. subst (λ (x : L). g.stands x (events_at lanes k)) (sym (same_lane k w)) (came.stands k w (before k lt));
      whole = λ k w lt good.
          came.whole k w (before k lt) (ap g.failed (sym (same_lane k w)) ∙ good) ∙ ap (λ n. share_of (by_key n) k (arrivals 0 frames)) (sym same_count);
      heavy = λ k w lt is. came.heavy k w (before k lt) (ap g.failed (sym (same_lane k w)) ∙ is);
    }

-- ---- the rings

ends_kept : (a b : Option (RingTx AnswerBatch)) (ring : RingTx AnswerBatch) (rx : RingRx AnswerBatch) → a ≡ Some ring → SameAnswers a b → AreEnds ring rx → AreAnswerEnds b rx
ends_kept None b ring rx is same ends = absurd (cc)
ends_kept (Some a) None ring rx is same ends = absurd same
ends_kept (Some a) (Some b) ring rx is same ends =
    let at : a ≡ ring = cc in
    ends_after ring b rx rx ends (subst (λ (x : RingTx AnswerBatch). SameTx x b) at same) (SameRx-refl rx)

-- the answer rings of workers that have served are those from which their answers were given out
pub are_beside : {L : Type 0} (g : Ghosts L) (script : List Stamped) (begins workers : List (Worker L)) (frames : List Captured) (all_answers : List LaneAnswers)
    → HaveServed g script begins frames workers → AreLaneAnswers begins all_answers → AreBeside workers all_answers
are_beside g script begins workers frames all_answers served are = record {
  count = sym served.count ∙ are.count;
  each = λ k w r lt.
      let its = are.answered k w r lt in
      let among : k < length workers = (let e = served.count in let f = are.count in omega (arith, e, f, lt)) in
      ends_kept (get_or begins k w).answers (get_or workers k w).answers its.ring (get_or all_answers k r).ring its.answers (served.each k w w among).worked.answering its.ends;
}

-- ---- the exits

-- why the dispatcher stopped is why the run is refused
pub refused_as : (frames : List Captured) (start : CaptureState) (old new : Option (List ℕ)) (rest : List ℕ) (e : PoolError) → StopsAs frames start old new (Err e) → old ≡ Some rest
    → RefusedAs (frames_at start rest) e
refused_as frames start old new rest (TooLong offset) stops is = stops rest is
refused_as frames start old new rest (TooMany offset) stops is = stops rest is
refused_as frames start old new rest ReadFault stops is = stops
refused_as frames start old new rest WriteFault stops is = stops
refused_as frames start old new rest Heavy stops is = stops
refused_as frames start old new rest NoMemory stops is = stops

-- the dispatcher never stops as too heavy
pub never_too_heavy : (frames : List Captured) (start : CaptureState) (old new : Option (List ℕ)) (e : PoolError) → StopsAs frames start old new (Err e) → e ≢ Heavy
never_too_heavy frames start old new e stops is = subst (λ x. StopsAs frames start old new (Err x)) is stops

-- what was given out is the first that the workers sent
module _ {L : Type 0} (g : Ghosts L) (app : Meaning) (script : List Stamped) (frames : List Captured) (begins workers : List (Worker L)) (all_answers : List LaneAnswers) (start : CaptureState)
    (old new before after : Option (List ℕ)) (rest : List ℕ) (read : Result Whole PoolError) (served : HaveServed g script begins frames workers)
    (streamed : Streamed begins frames all_answers start old new before after read) (fronts : (l : ℕ) → IsPrefix (given_from all_answers l) (sent_from workers l)) where
  all_answers_count : length all_answers ≡ length workers
  all_answers_count = sym streamed.all_answers_are.count ∙ served.count

  -- however the run ended
  pub front_at : LeavesFront app script frames (frames_at start rest).frames workers → ForwardsFront app script (length begins) (frames_at start rest).frames before after
  front_at law = record {
    versions = law.versions;
    may_have = subst (λ n. MayHave app script n (frames_at start rest).frames law.versions) (sym served.count) law.may_have;
    front = law.front (given_from all_answers) before after fronts
        (subst (λ n. HasLeft (lane_at n frames) (length frames) (given_from all_answers) before after) all_answers_count streamed.left);
  }

  module _ (ended : List (Worker L)) (same : map (λ w. w.lane) ended ≡ map (λ w. w.lane) workers)
      (whole_law : (lanes : List (List LaneEvent)) × CameTo g false app script frames workers lanes × (AreGood g workers → LeavesAll app script frames workers lanes))
      (law : LeavesFront app script frames (frames_at start rest).frames workers) (whole : Whole) (is_whole : read ≡ Ok whole) (is : old ≡ Some rest) where
    abbrev lanes : List (List LaneEvent)
    lanes = whole_law.0

    came : CameTo g false app script frames ended lanes
    came = came_after g workers ended same false app script frames lanes whole_law.1

    stops : StopsAs frames start old new (Ok whole)
    stops = subst (StopsAs frames start old new) is_whole streamed.stops

    all_left : HaveLeft (lane_at (length workers) frames) (length frames) (given_from all_answers) before after
    all_left = subst (λ n. HaveLeft (lane_at n frames) (length frames) (given_from all_answers) before after) all_answers_count (streamed.whole (subst IsOk (sym is_whole) refl))

    -- the capture was read whole
    pub over_at : (r : Result (List ℕ) PoolError) → (IsOk r → AreGood g ended)
        → ((ls : List (List LaneEvent)) (vs : List ℕ) → whole.last ≡ greatest (arrivals 0 frames) → CameTo g false app script frames ended ls
        → AreOneRun app (commands_of script) (by_key (length ended)) (arrivals 0 frames) ls vs
        → MayHave app script (length ended) frames vs → IfOk r (λ versions. versions ≡ vs))
        → ((ls : List (List LaneEvent)) → CameTo g false app script frames ended ls → IfErr r (λ e. e ≡ NoMemory))
        → ForwardsOver app script (length begins) (frames_at start rest) before after r
    over_at (Ok versions) good named no_memory =
        let law_all = whole_law.2 (good_before g workers ended same (good refl)) in
        let count = sym (same_count g workers ended same) in
        let vs : versions ≡ law_all.versions = named lanes law_all.versions stops.last came
        (subst (λ n. AreOneRun app (commands_of script) (by_key n) (arrivals 0 frames) lanes law_all.versions) count law_all.one)
        (subst (λ n. MayHave app script n frames law_all.versions) count law_all.may_have) in
        subst (λ f. ForwardsOver app script (length begins) f before after (Ok versions)) (sym (stops.holds rest is).0) (
          whole.tail,
          refl,
          subst (λ them. ForwardsAll app script (length begins) frames them before after) (sym vs) (record {
            may_have = subst (λ n. MayHave app script n frames law_all.versions) (sym served.count) law_all.may_have;
            written = law_all.all (given_from all_answers) before after fronts all_left;
          }),
        )
    over_at (Err e) good named no_memory = (subst (RefusedAs (frames_at start rest)) (sym (no_memory lanes came)) tt, front_at law)
