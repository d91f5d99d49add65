-- What the lanes of all workers came to.
use Rattle.std.proofs.Common.{◌≡◌, ◌≤◌, ◌<◌, ℕ, Bool, zero, suc, List, [], ◌∷◌, length, get_or, refl, ap, subst, arith}
use Rattle.std.proofs.lemmas.List.{get_or_default}
use Rattle.pcap_source.specs.Captured.{Captured}
use Rattle.ip6_views.specs.Sight.{lane_of_sight}
use Rattle.app_api.specs.App.{Meaning}
use Rattle.control_script.specs.declared.stamped.Stamped.{Stamped}
use Rattle.lane_core.specs.declared.recorder.Recorder.{Ghosts}
use Rattle.lane_core.specs.Sight.{Sight, sight_of}
use Rattle.lane_core.specs.Run.{LaneEvent}
use Rattle.run_outcome.specs.Lanes.{lane_of}
use Rattle.lane_composition.specs.Taken.{events_at}
use Rattle.lane_worker.specs.declared.worker.Worker.{Worker}
use Rattle.lane_rings.specs.declared.items.Batch.{Batch}
use Rattle.lane_rings.specs.declared.ring.RingTx.{RingTx}
use Rattle.worker_pool.specs.Team.{IsTeam, AllKeep, HaveServed}
use Rattle.worker_pool.specs.Ending.{by_key, CameTo}
use Rattle.worker_pool.specs.Answered.{HasAnswered, HaveAnswered}
use Rattle.worker_pool.proofs.Dealing.{AreOrdered}
use Rattle.worker_pool.proofs.Standing.{HasCome, came_events, has_come, has_answered}

at_each : {A : Type 0} (P : ℕ → A → Type 0) (x : A) (xs : List A) (n : ℕ) → P zero x → ((k : ℕ) (d : A) → k < n → P (suc k) (get_or xs k d)) → (k : ℕ) (d : A) → k < suc n → P k (get_or (x ∷ xs) k d)
at_each P x xs n here there zero d lt = here
at_each P x xs n here there (suc k) d lt = there k d (omega arith)

-- where each of the first n numbers has something, there is a list of n such things
pub listed : {A : Type 0} (P : ℕ → A → Type 0) (n : ℕ) → ((k : ℕ) → k < n → (x : A) × P k x) → (xs : List A) × (length xs ≡ n) × ((k : ℕ) (d : A) → k < n → P k (get_or xs k d))
listed P zero each = ([], refl, λ k d lt. absurd (omega arith))
listed {A} P (suc n) each =
    let first = each zero (omega arith) in
    let rest = listed (λ k. P (suc k)) n (λ k lt. each (suc k) (omega arith)) in
    (first.0 ∷ rest.0, ap suc rest.1, at_each P first.0 rest.0 n first.1 rest.2)

module _ {L : Type 0} (g : Ghosts L) (keep : Bool) (app : Meaning) (script : List Stamped) (frames : List Captured) (begins workers : List (Worker L)) (packets : List (RingTx Batch)) where
  module _ (ordered : AreOrdered script) (few : length frames ≤ 1048576) (team : IsTeam g app begins packets) (all_keep : AllKeep g keep begins) (served : HaveServed g script begins frames workers)
      (below : (sight : Sight) → lane_of (by_key (length workers)) sight < length workers)
      (dealt_by_key : (frame : List ℕ) → lane_of (by_key (length workers)) (sight_of frame) ≡ lane_of_sight (sight_of frame) (length workers)) where
    abbrev Came : ℕ → List LaneEvent → Type 0
    Came k events = (v w : Worker L) → HasCome g keep app script frames (length workers) k (get_or workers k w).lane events × HasAnswered g app frames events (get_or begins k v) (get_or workers k w)

    each_came : (d : Worker L) (k : ℕ) → k < length workers → (events : List LaneEvent) × Came k events
    each_came d k lt =
        let a = get_or begins k d in let b = get_or workers k d in
        let among : k < length begins = (let e = served.count in omega arith) in
        let new = team.each_new k d among in
        let kept = all_keep k d among in
        let one = served.each k d d lt in
        let events = came_events g keep app script frames (length workers) k ordered few dealt_by_key a b new kept one in (
          events,
          λ v w. (
            subst (λ (x : Worker L). HasCome g keep app script frames (length workers) k x.lane events) (get_or_default workers k d w lt)
                (has_come g keep app script frames (length workers) k ordered few dealt_by_key a b new kept one),
            subst (λ (x : Worker L). HasAnswered g app frames events x (get_or workers k w)) (get_or_default begins k d v among)
                (subst (λ (x : Worker L). HasAnswered g app frames events a x) (get_or_default workers k d w lt)
                (has_answered g keep app script frames (length workers) k ordered few dealt_by_key a b new kept one)),
          ),
        )

    module _ (d : Worker L) where
      abbrev all : (lanes : List (List LaneEvent)) × (length lanes ≡ length workers) × ((k : ℕ) (e : List LaneEvent) → k < length workers → Came k (get_or lanes k e))
      all = listed Came (length workers) (each_came d)

      came_at : (k : ℕ) (w : Worker L) → k < length workers → HasCome g keep app script frames (length workers) k (get_or workers k w).lane (events_at all.0 k)
      came_at k w lt = (all.2 k [] lt w w).0

      answered : HaveAnswered g app frames begins workers all.0
      answered k a b lt = (all.2 k [] lt a b).1

      in_range : (k : ℕ) → k < length all.0 → k < length workers
      in_range k lt = let e = all.1 in omega arith

      came : CameTo g keep app script frames workers all.0
      came = record {
        count = all.1;
        run = record {
          all = λ sight. let e = all.1 in let lt = below sight in omega arith;
          commands_are = λ k lt. (came_at k d (in_range k lt)).commands;
          packets_are = λ k lt. (came_at k d (in_range k lt)).packets;
          within = λ k lt. (came_at k d (in_range k lt)).within;
        };
        app_is = λ k w lt. (came_at k w lt).app_is;
        keeps = λ k w lt. (came_at k w lt).keeps;
        stands = λ k w lt. (came_at k w lt).stands;
        whole = λ k w lt. (came_at k w lt).whole;
        heavy = λ k w lt. (came_at k w lt).heavy;
      }

  any_worker : (ws : List (Worker L)) → 1 ≤ length ws → Worker L
  any_worker [] some = absurd (omega arith)
  any_worker (w ∷ ws) some = w

  -- the lanes of workers that have served a capture
  pub all_came : AreOrdered script → length frames ≤ 1048576 → IsTeam g app begins packets → AllKeep g keep begins → HaveServed g script begins frames workers
      → ((sight : Sight) → 1 ≤ length workers → lane_of (by_key (length workers)) sight < length workers)
      → ((frame : List ℕ) → lane_of (by_key (length workers)) (sight_of frame) ≡ lane_of_sight (sight_of frame) (length workers))
      → (lanes : List (List LaneEvent)) × CameTo g keep app script frames workers lanes × HaveAnswered g app frames begins workers lanes
  all_came ordered few team all_keep served below dealt_by_key =
      let some : 1 ≤ length workers = (let e = served.count in let one = team.some in omega arith) in
      let d = any_worker workers some in (
        _,
        came ordered few team all_keep served (λ sight. below sight some) dealt_by_key d,
        answered ordered few team all_keep served (λ sight. below sight some) dealt_by_key d,
      )
