-- The team of a forward run.
use Rattle.std.proofs.Common.{◌≡◌, ◌≢◌, ◌<◌, ◌≤◌, ◌+◌, ℕ, List, [], ◌∷◌, ◌++◌, length, get_or, refl, sym, ap, subst, ◌∙◌, ⊎_elim, arith}
use Rattle.std.specs.Prelude.{Bool, Some, Ok, Err, Result, Option, IsOk, IfOk, IsErrOf}
use Rattle.std.proofs.KnownBytes.{Appends-nil}
use Rattle.std.proofs.lemmas.List.{length_push, get_or_append_left, get_or_push}
use Rattle.std.proofs.lemmas.List.Elements.{All-push}
use Rattle.std.proofs.lemmas.Bool.{cases_lt}
use Rattle.mos_bytes.specs.Causes.{HasCauseOf}
use Rattle.mos_bytes.specs.Writes.{AppendsFront}
use Rattle.app_api.specs.App.{Meaning}
use Rattle.pcap_source.specs.Captured.{Captured}
use Rattle.pcap_source.specs.Capture.{Frames}
use Rattle.pcap_source.specs.Reading.{CaptureState}
use Rattle.control_script.specs.declared.stamped.Stamped.{Stamped}
use Rattle.lane_core.specs.declared.recorder.Recorder.{Ghosts}
use Rattle.lane_worker.specs.declared.worker.Worker.{Worker}
use Rattle.worker_pool.specs.declared.team.Team.{Team}
use Rattle.worker_pool.specs.Team.{IsTeam, AllKeep}
use Rattle.worker_pool.specs.Making.{AreBegun}
use Rattle.worker_pool.proofs.Making.{team_begun}
use Rattle.worker_pool.specs.declared.team.dispatch.Whole.{Whole}
use Rattle.worker_pool.specs.declared.job.PoolError.{PoolError}
use Rattle.worker_pool.specs.declared.job.PoolError.TheVariants.{NoMemory}
use Rattle.forward_run.specs.Forward.{ForwardsFront, ForwardsOver}
use Rattle.forward_dispatch.specs.declared.lane_answers.LaneAnswers.{LaneAnswers}
use Rattle.forward_dispatch.specs.Given.{given_by}
use Rattle.forward_dispatch.specs.Streamed.{AreUnused, IsAnswered, AreLaneAnswers, StopsAs}

module _ {L : Type 0} where
  no_lane_answers : AreLaneAnswers {L = L} [] []
  no_lane_answers = record { count = refl; answered = λ k w r below. absurd (omega (arith, below)) }

  -- no worker answers
  pub none_unused : AreUnused {L = L} [] []
  none_unused = record { all_answers_are = no_lane_answers; ungiven = λ k r below. absurd (omega (arith, below)) }

  with_lane_answers : (workers : List (Worker L)) (all_answers : List LaneAnswers) (w : Worker L) (r : LaneAnswers) → AreLaneAnswers workers all_answers → IsAnswered w r
      → AreLaneAnswers (workers ++ w ∷ []) (all_answers ++ r ∷ [])
  with_lane_answers workers all_answers w r are one = record {
    count = length_push workers w ∙ ap (λ n. n + 1) are.count ∙ sym (length_push all_answers r);
    answered = λ k v t lt. ⊎_elim
        (λ below.
        let other : k < length workers = (let e = are.count in omega arith) in
        subst (λ (x : LaneAnswers). IsAnswered (get_or (workers ++ w ∷ []) k v) x) (sym (get_or_append_left all_answers (r ∷ []) t k below))
        (subst (λ (x : Worker L). IsAnswered x (get_or all_answers k t)) (sym (get_or_append_left workers (w ∷ []) v k other)) (are.answered k v t below)))
        (λ past.
        let there : length all_answers ≡ k = (let e = length_push all_answers r in omega arith) in
        let here : length workers ≡ k = are.count ∙ there in
        subst (λ (x : LaneAnswers). IsAnswered (get_or (workers ++ w ∷ []) k v) x) (sym (get_or_push all_answers r t k there))
        (subst (λ (x : Worker L). IsAnswered x r) (sym (get_or_push workers w v k here)) one))
        (cases_lt k (length all_answers));
  }

  -- one more worker that answers, of whose answers none was given out
  pub more_unused : (workers : List (Worker L)) (all_answers : List LaneAnswers) (w : Worker L) (r : LaneAnswers) → AreUnused workers all_answers → IsAnswered w r → given_by r ≡ []
      → AreUnused (workers ++ w ∷ []) (all_answers ++ r ∷ [])
  more_unused workers all_answers w r are one none = record {
    all_answers_are = with_lane_answers workers all_answers w r are.all_answers_are one;
    ungiven = All-push (λ (x : LaneAnswers). given_by x ≡ []) all_answers r are.ungiven none;
  }

-- ---- a team that is made, with what takes its answers and the rings through which batches come back

module _ {L : Type 0} (g : Ghosts L) (app : Meaning) (keep : Bool) where
  pub answering_team : {X Y E : Type 0} (r : Result (Team L × X × Y) E) (n : ℕ) → 1 ≤ n → IfOk r (λ t. AreBegun g app keep t.0.workers.items t.0.packets.items)
      → IfOk r (λ t. length t.0.workers.items ≡ n) → IfOk r (λ t. IsTeam g app t.0.workers.items t.0.packets.items)
  answering_team (Err e) n some begun count = tt
  answering_team (Ok t) n some begun count = team_begun g app keep t.0.workers.items t.0.packets.items (omega (arith, some, count)) begun

  -- all its lanes are of one kind
  pub answering_kind : {X Y E : Type 0} (r : Result (Team L × X × Y) E) → IfOk r (λ t. AreBegun g app keep t.0.workers.items t.0.packets.items)
      → IfOk r (λ t. AllKeep g keep t.0.workers.items)
  answering_kind (Err e) begun = tt
  answering_kind (Ok t) begun = begun.kept

-- ---- the ends

-- a run that wrote nothing wrote a front
pub front_of_nothing : (before : Option (List ℕ)) (bytes : List ℕ) → AppendsFront before before bytes
front_of_nothing before bytes = record { front = []; rest = bytes; added = Appends-nil before; whole = refl }

-- the source of a run that was read to its end has nothing left
pub read_all : (frames : List Captured) (capture : CaptureState) (old new : Option (List ℕ)) (read : Result Whole PoolError) → IsOk read → StopsAs frames capture old new read
    → (rest : List ℕ) → old ≡ Some rest → new ≡ Some []
read_all frames capture old new (Ok whole) ok stops rest is = (stops.holds rest is).1
read_all frames capture old new (Err e) ok stops rest is = absurd (cc)

-- a run that memory was refused to before it began wrote nothing
pub ended_early : (app : Meaning) (script : List Stamped) (lanes : ℕ) (f : Frames) (before : Option (List ℕ)) (result : Result (List ℕ) PoolError) → result ≡ Err NoMemory
    → ForwardsFront app script lanes f.frames before before → ForwardsOver app script lanes f before before result
ended_early app script lanes f before result is front = subst (λ (r : Result (List ℕ) PoolError). ForwardsOver app script lanes f before before r) (sym is) (tt, front)

-- which is no fault
pub no_fault_early : (count : ℕ) (fault : PoolError) (result : Result (List ℕ) PoolError) → result ≡ Err NoMemory → NoMemory ≢ fault → HasCauseOf count count (IsErrOf result fault)
no_fault_early count fault result is other = record { later = omega arith; cause = λ told. absurd (other (cc)) }
