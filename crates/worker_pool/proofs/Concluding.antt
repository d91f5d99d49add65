-- The end of a run, from the ends of its lanes.
use Rattle.std.proofs.Common.{◌≡◌, ◌≤◌, ◌<◌, ℕ, suc, ◌+◌, Bool, true, false, Option, List, [], ◌∷◌, length, get_or, map, refl, sym, ap, subst, ◌∙◌, ◌⊎◌, ⊎_elim, arith}
use Rattle.std.specs.Prelude.{◌^◌, ◌-◌, min, nat_lt, Result, Ok, Err, IsErrOf, IfOk}
use Rattle.std.proofs.lemmas.Bool.{ltb-true, ltb-false}
use Rattle.std.proofs.lemmas.List.{length-map}
use Rattle.app_api.specs.App.{Meaning}
use Rattle.pcap_source.specs.Captured.{Captured}
use Rattle.pcap_source.specs.Capture.{tail}
use Rattle.control_script.specs.declared.stamped.Stamped.{Stamped}
use Rattle.lane_core.specs.declared.end.KeptEnd.{KeptEnd}
use Rattle.lane_core.specs.declared.under_way.RecordUnderWay.{RecordUnderWay}
use Rattle.lane_core.specs.declared.recorder.Recorder.{Ghosts}
use Rattle.lane_core.specs.Sight.{Moment, arrivals}
use Rattle.lane_core.specs.Records.{RecordSoFar}
use Rattle.lane_core.specs.Run.{LaneEvent, ended_run}
use Rattle.lane_core.specs.Shown.{record_of, weight, callbacks_of, drop_count}
use Rattle.lane_core.specs.End.{ended}
use Rattle.lane_core.specs.KeptEnd.{IsKeptEnd, shown_as}
use Rattle.lane_core.specs.Lane.{IsHeavy, IsHeavyAtEnd}
use Rattle.control_script.specs.Order.{commands_of}
use Rattle.control_script.specs.Versions.{floor, ceil}
use Rattle.lane_join.specs.declared.ends.Joined.{Joined}
use Rattle.lane_composition.specs.Allowed.{arrivals_of}
use Rattle.run_outcome.specs.Greatest.{greatest}
use Rattle.lane_composition.specs.Lanes.{share}
use Rattle.lane_composition.specs.Ends.{AreEnds, IsJoined}
use Rattle.lane_composition.specs.Taken.{events_at, packets_at, HaveRunAll, AreOneRun}
use Rattle.run_outcome.specs.Whole.{IsAllowedRun, run_under}
use Rattle.lane_worker.specs.declared.worker.Worker.{Worker}
use Rattle.worker_pool.specs.declared.job.KeptLanes.{KeptLanes}
use Rattle.worker_pool.specs.Run.{as_shown, shown_end, IsWhole, IsTooHeavy, EndsOver}
use Rattle.run_outcome.specs.Allowed.{MayHave, run_of}
use Rattle.worker_pool.specs.declared.job.PoolError.{PoolError}
use Rattle.worker_pool.specs.declared.job.PoolError.TheVariants.{TooLong, TooMany, ReadFault, WriteFault, Heavy, NoMemory}
use Rattle.worker_pool.specs.Ending.{by_key, CameTo, AreEnded, IsCause, IsJoinedRun, Concludes}

any_of : {A : Type 0} (xs : List A) (k : ℕ) → k < length xs → A
any_of [] k lt = absurd (omega arith)
any_of (x ∷ xs) k lt = x

-- ---- the ends of lanes

module _ {L : Type 0} (g : Ghosts L) (keep : Bool) (app : Meaning) (script : List Stamped) (frames : List Captured) (workers : List (Worker L)) (lanes : List (List LaneEvent))
    (came : CameTo g keep app script frames workers lanes)
    (last : Option Moment) (ends : List KeptEnd) (ended : AreEnded g last workers ends) where
  -- each is the end of the lane's run
  ends_at : AreEnds keep app last lanes ends
  ends_at = record {
    count = came.count ∙ ended.count;
    each = λ k d lt.
        let below : k < length workers = (let e = ended.count in omega arith) in
        let w = any_of workers k below in
        let end = get_or ends k d in
        let ran = (ended.each k w d below).end_is (events_at lanes k) (came.stands k w below) in
        subst (λ b. IsKeptEnd b app (ended_run app (events_at lanes k) last) end) (came.keeps k w below)
        (subst (λ (m : Meaning). IsKeptEnd (g.keeps (get_or workers k w).lane) m (ended_run m (events_at lanes k) last) end) (came.app_is k w below) ran);
  }

  pub lanes_end : last ≡ greatest (arrivals 0 frames) → AreEnds keep app (greatest (arrivals 0 frames)) lanes ends
  lanes_end is = subst (λ m. AreEnds keep app m lanes ends) is ends_at

  -- none of them failed, so each ran its whole share
  pub all_run : HaveRunAll (by_key (length workers)) (arrivals 0 frames) lanes
  all_run k lt =
      let below : k < length workers = (let e = came.count in omega arith) in
      let among : k < length ends = (let e = ended.count in omega arith) in
      let w = any_of workers k below in
      came.whole k w below (ended.each k w (any_of ends k among) below).good

  -- joined, they are the end of one run
  pub joined_run : (n : ℕ) → n ≡ length workers → (joined : Joined)
      → ((vs : List ℕ) × IsAllowedRun app (commands_of script) (floor script) (ceil script) (by_key (length workers)) (arrivals 0 frames) vs
      × AreOneRun app (commands_of script) (by_key (length workers)) (arrivals 0 frames) lanes vs)
      → ((vs : List ℕ) → AreOneRun app (commands_of script) (by_key (length workers)) (arrivals 0 frames) lanes vs
      → IsJoined keep app (run_of app script vs frames) (shown_as app joined.records) joined.callbacks joined.weight joined.drops)
      → IsJoinedRun app script n frames keep (Ok joined)
  joined_run n same joined run joins = (run.0, subst (λ m. MayHave app script m frames run.0) (sym same) run.1, joins run.0 run.2)

-- ---- why there is no end

module _ {L : Type 0} (g : Ghosts L) (keep : Bool) (app : Meaning) (script : List Stamped) (frames : List Captured) (workers : List (Worker L)) (lanes : List (List LaneEvent))
    (came : CameTo g keep app script frames workers lanes)
    (last : Option Moment) (is_last : last ≡ greatest (arrivals 0 frames)) where
  -- a run over all packets that weighs too much
  abbrev HeavyRun : Type 0
  HeavyRun = (vs : List ℕ) × IsAllowedRun app (commands_of script) (floor script) (ceil script) (by_key (length workers)) (arrivals 0 frames) vs
      × (134217728 < weight (run_under app (commands_of script) vs (arrivals 0 frames)))

  heavy_run : (n : ℕ) → n ≡ length workers → HeavyRun → IsTooHeavy app script n frames
  heavy_run n same run = record { versions = run.0; allowed = subst (λ m. MayHave app script m frames run.0) (sym same) run.1; heavy = run.2 }

  -- no memory was there, or a lane was heavy, while it ran or at its end, and so the run is
  pub refused : (n : ℕ) (e : PoolError) → n ≡ length workers → (e ≡ NoMemory) ⊎ ((k : ℕ) × (k < length workers) × ((w : Worker L) → IsCause g last (get_or workers k w) e))
      → ((k : ℕ) → IsHeavy app (events_at lanes k) → HeavyRun)
      → ((k : ℕ) → arrivals_of (packets_at lanes k) ≡ share (by_key (length workers)) k (arrivals 0 frames) → IsHeavyAtEnd app (events_at lanes k) (greatest (arrivals 0 frames)) → HeavyRun)
      → IsJoinedRun app script n frames keep (Err e)
  refused n NoMemory same why heavy at_end = tt
  refused n Heavy same why heavy at_end = ⊎_elim
      (λ none. absurd (cc))
      (λ one.
      let k = one.0 in
      let w = any_of workers k one.1 in
      ⊎_elim
      (λ failed. let is = came.heavy k w one.1 failed in (is.0, heavy_run n same (heavy k is.1)))
      (λ ends.
      let too_much = ends.heavy (events_at lanes k) (came.stands k w one.1) in
      let its = subst (λ (m : Meaning). IsHeavyAtEnd m (events_at lanes k) last) (came.app_is k w one.1) too_much in (
        sym (came.keeps k w one.1) ∙ ends.keeps,
        heavy_run n same (at_end k (came.whole k w one.1 ends.good) (subst (λ m. IsHeavyAtEnd app (events_at lanes k) m) is_last its)),
      ))
      (one.2 w))
      why
  refused n ReadFault same why heavy at_end = ⊎_elim (λ none. absurd (cc)) (λ one. absurd (one.2 (any_of workers one.0 one.1))) why
  refused n WriteFault same why heavy at_end = ⊎_elim (λ none. absurd (cc)) (λ one. absurd (one.2 (any_of workers one.0 one.1))) why
  refused n (TooLong offset) same why heavy at_end = ⊎_elim (λ none. absurd (cc)) (λ one. absurd (one.2 (any_of workers one.0 one.1))) why
  refused n (TooMany offset) same why heavy at_end = ⊎_elim (λ none. absurd (cc)) (λ one. absurd (one.2 (any_of workers one.0 one.1))) why

-- ---- the end of the run

pub length-arrivals : (n : ℕ) (frames : List Captured) → length (arrivals n frames) ≡ length frames
length-arrivals n [] = refl
length-arrivals n (frame ∷ frames) = ap suc (length-arrivals (n + 1) frames)

-- the version of a record is shown as it is
pub versions_stay : (app : Meaning) (kept : List RecordUnderWay) → map (λ r. r.version) (shown_as app kept) ≡ map (λ r. r.version) kept
versions_stay app [] = refl
versions_stay app (r ∷ kept) = ap (λ l. r.version ∷ l) (versions_stay app kept)

module _ (app : Meaning) (script : List Stamped) (lanes : ℕ) (frames : List Captured) (vs : List ℕ) (allowed : MayHave app script lanes frames vs)
    (kept : List RecordUnderWay) (callbacks weighs drops : ℕ) (joined : IsJoined true app (run_of app script vs frames) (shown_as app kept) callbacks weighs drops) where
  abbrev run : List RecordSoFar
  run = run_of app script vs frames

  pub too_heavy : nat_lt 134217728 weighs ≡ true → IsTooHeavy app script lanes frames
  too_heavy is = record {
    versions = vs;
    allowed = allowed;
    heavy = let lt = ltb-true 134217728 weighs is in let e = joined.weight_is in omega arith;
  }

  light : nat_lt 134217728 weighs ≡ false → weight run ≤ 134217728
  light is = let le = ltb-false 134217728 weighs is in let e = joined.weight_is in omega arith

  records_shown : shown_as app kept ≡ map (record_of app) run
  records_shown = joined.records_are

  versions_shown : (rs : List RecordSoFar) → map (λ r. r.version) (map (record_of app) rs) ≡ map (λ r. r.version) rs
  versions_shown [] = refl
  versions_shown (r ∷ rs) = ap (λ l. r.version ∷ l) (versions_shown rs)

  -- `seen` are the records as the program looks at them
  module _ (seen : List RecordUnderWay) (same : seen ≡ kept) (named : map (λ r. r.version) run ≡ vs)
      (callbacks_fit : weight run ≤ 134217728 → min (callbacks_of run) (2 ^ 64 - 1) ≡ callbacks_of run)
      (drops_fit : min (drop_count run) (2 ^ 64 - 1) ≡ drop_count run) (packets bytes : ℕ) (of_frames : length frames ≡ packets) (light_is : nat_lt 134217728 weighs ≡ false) where
    abbrev pub end_of : List ℕ → KeptLanes
    end_of versions = record {
      records = kept;
      versions = versions;
      totals = record { packets = packets; records = length seen; callbacks = callbacks; drops = drops; tail = bytes };
    }

    versions_are : map (λ r. r.version) seen ≡ vs
    versions_are = ap (map (λ r. r.version)) same ∙ sym (versions_stay app kept) ∙ ap (map (λ r. r.version)) records_shown ∙ versions_shown run ∙ named

    under_vs : IsWhole app script lanes frames bytes (as_shown app (end_of vs))
    under_vs = record {
      allowed = allowed;
      light = light light_is;
      records_are = records_shown;
      totals_are =
          let a : packets ≡ length frames = sym of_frames in
          let b : length seen ≡ length run = ap length same ∙ sym (length-map kept (ended app)) ∙ ap length records_shown ∙ length-map run (record_of app) in
          let c : callbacks ≡ callbacks_of run = joined.callbacks_are ∙ callbacks_fit (light light_is) in
          let d : drops ≡ drop_count run = joined.drops_are ∙ drops_fit in
          cc;
    }

    pub is_whole : (versions : List ℕ) → versions ≡ map (λ r. r.version) seen → IsWhole app script lanes frames bytes (as_shown app (end_of versions))
    is_whole versions e = subst (λ v. IsWhole app script lanes frames bytes (as_shown app (end_of v))) (sym (e ∙ versions_are)) under_vs

-- ---- how a run ends over a capture

module _ (app : Meaning) (script : List Stamped) (lanes : ℕ) (frames : List Captured) (bytes : ℕ) where
  -- why the lanes aren't joined is why the run has no end
  pub not_joined : (e : PoolError) → IsJoinedRun app script lanes frames true (Err e) → Concludes app script lanes frames bytes (Err e)
  not_joined NoMemory is = is
  not_joined Heavy is = is.1
  not_joined ReadFault is = is
  not_joined WriteFault is = is
  not_joined (TooLong offset) is = is
  not_joined (TooMany offset) is = is

  pub concluded : (r : Result KeptLanes PoolError) → Concludes app script lanes frames bytes r → EndsOver app script lanes (record { frames = frames; ending = tail bytes }) (shown_end app r)
  concluded (Ok end) is = (bytes, refl, is)
  concluded (Err NoMemory) is = is
  concluded (Err Heavy) is = (bytes, refl, is)
  concluded (Err ReadFault) is = absurd is
  concluded (Err WriteFault) is = absurd is
  concluded (Err (TooLong offset)) is = absurd is
  concluded (Err (TooMany offset)) is = absurd is

  -- a run that read all of it ends with no fault of the source
  pub no_fault : (r : Result KeptLanes PoolError) → Concludes app script lanes frames bytes r → IsErrOf r ReadFault → ⊥
  no_fault (Ok end) is fault = cc
  no_fault (Err NoMemory) is fault = cc
  no_fault (Err Heavy) is fault = cc
  no_fault (Err ReadFault) is fault = is
  no_fault (Err WriteFault) is fault = is
  no_fault (Err (TooLong offset)) is fault = is
  no_fault (Err (TooMany offset)) is fault = is

  -- nor of a sink
  pub no_write : (r : Result KeptLanes PoolError) → Concludes app script lanes frames bytes r → IsErrOf r WriteFault → ⊥
  no_write (Ok end) is fault = cc
  no_write (Err NoMemory) is fault = cc
  no_write (Err Heavy) is fault = cc
  no_write (Err ReadFault) is fault = is
  no_write (Err WriteFault) is fault = is
  no_write (Err (TooLong offset)) is fault = is
  no_write (Err (TooMany offset)) is fault = is

  -- a run that ends well is that of some frames
  pub of_frames : (r : Result KeptLanes PoolError) → Concludes app script lanes frames bytes r
      → IfOk r (λ end. (fs : List Captured) × (n : ℕ) × IsWhole app script lanes fs n (as_shown app end))
  of_frames (Ok end) is = (frames, bytes, is)
  of_frames (Err e) is = tt
