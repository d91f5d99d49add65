-- The ends of the lanes of workers, one after the other.
use Rattle.std.proofs.Common.{◌≡◌, ◌<◌, ℕ, true, Option, Some, None, List, length, map, get_or, refl, sym, ap, subst, ◌∙◌, ◌⊎◌, inl, inr, arith}
use Rattle.std.specs.Prelude.{Result, Ok, Err}
use Rattle.std.proofs.lemmas.List.{length-map, get_or-map}
use Rattle.lane_core.specs.declared.end.KeptEnd.{KeptEnd}
use Rattle.lane_core.specs.declared.errors.LaneError.{LaneError}
use Rattle.lane_core.specs.declared.errors.LaneError.TheVariants.{Heavy as TooHeavy, NoMemory as OutOfMemory}
use Rattle.lane_core.specs.declared.recorder.Recorder.{Ghosts}
use Rattle.lane_core.specs.Sight.{Moment}
use Rattle.lane_core.specs.Run.{LaneEvent}
use Rattle.lane_core.specs.Lane.{IsHeavyAtEnd}
use Rattle.lane_worker.specs.declared.worker.Worker.{Worker}
use Rattle.worker_pool.specs.declared.job.PoolError.{PoolError}
use Rattle.worker_pool.specs.declared.job.PoolError.TheVariants.{NoMemory}
use Rattle.worker_pool.specs.Refused.{lane_refusal}
use Rattle.worker_pool.specs.Ending.{ComesTo, HaveCome, AreEnded, EndsHeavy, IsCause}

module _ {L : Type 0} (g : Ghosts L) (last : Option Moment) where
  -- all lanes have ended
  pub all_ended : (workers : List (Worker L)) (came : List (Result KeptEnd PoolError)) (ends : List KeptEnd)
      → HaveCome g last workers came → came ≡ map (λ end. Ok end) ends → AreEnded g last workers ends
  all_ended workers came ends have is =
      let count : length workers ≡ length ends = have.count ∙ ap length is ∙ length-map ends (λ end. Ok end) in
      record {
        count = count;
        each = λ k w d lt.
            let within : k < length ends = (let e = count in omega arith) in
            subst (ComesTo g last (get_or workers k w)) (ap (λ (l : List (Result KeptEnd PoolError)). get_or l k (Ok d)) is ∙ get_or-map (λ end. Ok end) ends k d (Ok d) within)
            (have.each k w (Ok d) lt);
      }

  -- the lane of one of the workers has no end
  pub one_failed : (workers : List (Worker L)) (came : List (Result KeptEnd PoolError)) (k : ℕ) (r : Result KeptEnd PoolError) (e : PoolError)
      → HaveCome g last workers came → (k < length came) × (r ≡ get_or came k r) → r ≡ Err e
      → (e ≡ NoMemory) ⊎ ((n : ℕ) × (n < length workers) × ((v : Worker L) → IsCause g last (get_or workers n v) e))
  one_failed workers came k r e have at is =
      let within : k < length workers = (let n = have.count in let m = at.0 in omega arith) in
      inr (k, within, λ v. subst (ComesTo g last (get_or workers k v)) (sym at.1 ∙ is) (have.each k v r within))

  -- ---- why one lane has no end

  module _ (worker : Worker L) (r : Result KeptEnd LaneError) (failed : (e : LaneError) → g.failed worker.lane ≡ Some e → r ≡ Err e)
      (heavy : g.failed worker.lane ≡ None → r ≡ Err TooHeavy → (g.keeps worker.lane ≡ true)
      × ((events : List LaneEvent) → g.stands worker.lane events → IsHeavyAtEnd (g.app worker.lane) events last)) where
    heavy_by : (o : Option LaneError) → g.failed worker.lane ≡ o → r ≡ Err TooHeavy → (g.failed worker.lane ≡ Some TooHeavy) ⊎ EndsHeavy g last worker
    heavy_by (Some e) is at = inl (let told = failed e is in let same : e ≡ TooHeavy = cc in is ∙ ap (λ x. Some x) same)
    heavy_by None is at = let why = heavy is at in inr (record { good = is; keeps = why.0; heavy = why.1 })

    pub no_end : (e : LaneError) → r ≡ Err e → IsCause g last worker (lane_refusal e)
    no_end OutOfMemory at = tt
    no_end TooHeavy at = heavy_by (g.failed worker.lane) refl at
