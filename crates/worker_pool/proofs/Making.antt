-- One more worker of a team.
use Rattle.std.proofs.Common.{◌≡◌, ◌<◌, ◌≤◌, ◌+◌, List, [], ◌∷◌, ◌++◌, length, get_or, refl, sym, ap, subst, ◌∙◌, ⊎_elim, arith}
use Rattle.std.specs.Prelude.{ℕ, Bool, Result, Ok, Err, IfOk}
use Rattle.std.proofs.lemmas.List.{length_push, get_or_append_left, get_or_push}
use Rattle.std.proofs.lemmas.List.Elements.{All-push}
use Rattle.std.proofs.lemmas.Bool.{cases_lt}
use Rattle.app_api.specs.App.{Meaning}
use Rattle.lane_rings.specs.declared.items.Batch.{Batch}
use Rattle.lane_rings.specs.declared.ring.RingTx.{RingTx}
use Rattle.lane_rings.specs.Ring.{sent, AreEnds}
use Rattle.lane_core.specs.declared.recorder.Recorder.{Ghosts}
use Rattle.lane_worker.specs.declared.worker.Worker.{Worker}
use Rattle.worker_pool.specs.declared.team.Team.{Team}
use Rattle.worker_pool.specs.Team.{IsNew, IsTeam, AllKeep}
use Rattle.worker_pool.specs.Making.{AreBegun}

module _ {L : Type 0} (g : Ghosts L) (app : Meaning) (keep : Bool) where
  -- nobody has begun
  pub none_begun : AreBegun g app keep [] []
  none_begun = record {
    count = refl;
    each_new = λ k w below. absurd (omega (arith, below));
    each_ends = λ k w t below. absurd (omega (arith, below));
    kept = λ k w below. absurd (omega (arith, below));
    each_sent = λ k t below. absurd (omega (arith, below));
  }

  -- a team with one more worker, and the sending end of its packet ring
  pub begun_more : (workers : List (Worker L)) (packets : List (RingTx Batch)) (w : Worker L) (tx : RingTx Batch) → AreBegun g app keep workers packets → IsNew g app w → g.keeps w.lane ≡ keep
      → AreEnds tx w.packets → sent tx ≡ []
      → AreBegun g app keep (workers ++ w ∷ []) (packets ++ tx ∷ [])
  begun_more workers packets w tx begun new keeps ends none = record {
    count = length_push workers w ∙ ap (λ n. n + 1) begun.count ∙ sym (length_push packets tx);
    each_new = All-push (IsNew g app) workers w begun.each_new new;
    each_ends = λ k v t lt. ⊎_elim
        (λ below.
        let other : k < length packets = (let e = begun.count in omega arith) in
        subst (λ (x : RingTx Batch). AreEnds x (get_or (workers ++ w ∷ []) k v).packets) (sym (get_or_append_left packets (tx ∷ []) t k other))
        (subst (λ (x : Worker L). AreEnds (get_or packets k t) x.packets) (sym (get_or_append_left workers (w ∷ []) v k below)) (begun.each_ends k v t below)))
        (λ past.
        let here : length workers ≡ k = (let e = length_push workers w in omega arith) in
        let there : length packets ≡ k = sym begun.count ∙ here in
        subst (λ (x : RingTx Batch). AreEnds x (get_or (workers ++ w ∷ []) k v).packets) (sym (get_or_push packets tx t k there))
        (subst (λ (x : Worker L). AreEnds tx x.packets) (sym (get_or_push workers w v k here)) ends))
        (cases_lt k (length workers));
    kept = All-push (λ (x : Worker L). g.keeps x.lane ≡ keep) workers w begun.kept keeps;
    each_sent = λ k t lt. All-push (λ (x : RingTx Batch). sent x ≡ []) packets tx begun.each_sent none k t lt;
  }

  -- at least one of them is a team
  pub team_begun : (workers : List (Worker L)) (packets : List (RingTx Batch)) → 1 ≤ length workers → AreBegun g app keep workers packets → IsTeam g app workers packets
  team_begun workers packets some begun = record {
    some = some;
    count = begun.count;
    each_new = begun.each_new;
    each_ends = begun.each_ends;
    each_sent = begun.each_sent;
  }

  -- a team that is made, with the taking ends of its answer rings or of its frame rings
  pub team_made : {X E : Type 0} (r : Result (Team L × X) E) (n : ℕ) → 1 ≤ n → IfOk r (λ t. AreBegun g app keep t.0.workers.items t.0.packets.items) → IfOk r (λ t. length t.0.workers.items ≡ n)
      → IfOk r (λ t. IsTeam g app t.0.workers.items t.0.packets.items)
  team_made (Err e) n some begun count = tt
  team_made (Ok t) n some begun count = team_begun t.0.workers.items t.0.packets.items (omega (arith, some, count)) begun

  -- all its lanes are of one kind
  pub kind_made : {X E : Type 0} (r : Result (Team L × X) E) → IfOk r (λ t. AreBegun g app keep t.0.workers.items t.0.packets.items) → IfOk r (λ t. AllKeep g keep t.0.workers.items)
  kind_made (Err e) begun = tt
  kind_made (Ok t) begun = begun.kept
