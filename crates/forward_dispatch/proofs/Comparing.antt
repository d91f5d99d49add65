-- Both ends of the answer rings of workers whose threads have ended.
use Rattle.std.proofs.Common.{◌≡◌, ◌<◌, ◌≤◌, ◌+◌, ℕ, Option, List, [], ◌∷◌, ◌++◌, length, map, set, get_or, refl, sym, ap, subst, ◌∙◌, append_assoc, ⊎_elim, arith}
use Rattle.std.proofs.Math.Seq.{map-set_same}
use Rattle.std.proofs.lemmas.Bool.{cases_eq, cases_lt}
use Rattle.std.proofs.lemmas.List.{length-map, length-set, get_or_default, get_or_past, get_or-map, get_or-set_other}
use Rattle.std.proofs.lemmas.List.Concat.{flat_map-append}
use mathlib.Core.List.{IsPrefix}
use Rattle.lane_rings.specs.declared.items.Answer.{Answer}
use Rattle.lane_rings.specs.declared.items.AnswerBatch.{AnswerBatch}
use Rattle.lane_rings.specs.declared.ring.RingTx.{RingTx}
use Rattle.lane_rings.specs.Answers.{answers_of, answers_in}
use Rattle.lane_worker.specs.declared.worker.Worker.{Worker}
use Rattle.forward_dispatch.specs.declared.lane_answers.LaneAnswers.{LaneAnswers}
use Rattle.forward_dispatch.specs.Compared.{AreBeside, sent_in, sent_from}
use Rattle.forward_dispatch.specs.Given.{given_by, given_from}

-- what was given out of the batches that were taken is a front of those that were sent
pub given_front : (given rest : List Answer) (taken known sent : List AnswerBatch) → given ++ rest ≡ answers_in taken → taken ++ known ≡ sent → IsPrefix given (answers_in sent)
given_front given rest taken known sent whole all = (
  rest ++ answers_in known,
  sym (append_assoc given rest (answers_in known)) ∙ ap (λ l. l ++ answers_in known) whole ∙ sym (flat_map-append answers_of taken known) ∙ ap answers_in all,
)

module _ {L : Type 0} (workers : List (Worker L)) (all_answers : List LaneAnswers) where
  -- the rings of the first k lanes were compared, and the others are as they were
  pub record IsComparing (k : ℕ) (now : List (Worker L)) (left : List LaneAnswers) : Type 0 where
    pub lanes : map (λ u. u.lane) now ≡ map (λ u. u.lane) workers
    pub sents : map (λ u. sent_in u.answers) now ≡ map (λ u. sent_in u.answers) workers
    pub workers_count : length now ≡ length workers
    pub count : length left ≡ length all_answers
    pub same_workers : (j : ℕ) (d : Worker L) → k ≤ j → get_or now j d ≡ get_or workers j d
    pub same_all_answers : (j : ℕ) (r : LaneAnswers) → k ≤ j → get_or left j r ≡ get_or all_answers j r
    pub done : (j : ℕ) (r : LaneAnswers) → j < k → IsPrefix (given_by (get_or all_answers j r)) (sent_from workers j)

  -- at the end
  pub all_fronts : (beside : AreBeside workers all_answers) (now : List (Worker L)) (left : List LaneAnswers) → IsComparing (length all_answers) now left → (l : ℕ)
      → IsPrefix (given_from all_answers l) (sent_from workers l)
  all_fronts beside now left is l = front_from all_answers (is.done) l
    where
      front_from : (xs : List LaneAnswers) → ((j : ℕ) (r : LaneAnswers) → j < length xs → IsPrefix (given_by (get_or xs j r)) (sent_from workers j)) → (l : ℕ)
          → IsPrefix (given_from xs l) (sent_from workers l)
      front_from [] each l = (sent_from workers l, refl)
      front_from (x ∷ xs) each l = ⊎_elim
          (λ lt. subst (λ a. IsPrefix a (sent_from workers l)) (sym (get_or-map given_by (x ∷ xs) l x [] lt)) (each l x lt))
          (λ le. subst (λ a. IsPrefix a (sent_from workers l)) (sym (get_or_past (map given_by (x ∷ xs)) l [] (let c = length-map (x ∷ xs) given_by in omega (arith, c, le)))) (sent_from workers l, refl))
          (cases_lt l (length (x ∷ xs)))

  module _ (k : ℕ) (now : List (Worker L)) (left : List LaneAnswers) (is : IsComparing k now left) (d : Worker L) (e : LaneAnswers) (below : k < length all_answers) (beside : AreBeside workers all_answers)
      (at_worker : d ≡ get_or now k d) (at_answers : e ≡ get_or left k e) where
    among : k < length workers
    among = let c = beside.count in omega (arith, c, below)

    -- one more
    pub one_compared : (answers : Option (RingTx AnswerBatch)) (after : LaneAnswers) → sent_in answers ≡ sent_in d.answers → IsPrefix (given_by e) (sent_in d.answers)
        → IsComparing (k + 1) (set now k (record d { answers = answers })) (set left k after)
    one_compared answers after same front =
        let worker : Worker L = record d { answers = answers } in
        let here_w : k < length now = (let c = is.workers_count in let a = among in omega (arith, c, a)) in
        let here_r : k < length left = (let c = is.count in omega (arith, c, below)) in
        let given_is : sent_in d.answers ≡ sent_from workers k =
        ap (λ (u : Worker L). sent_in u.answers) at_worker ∙ sym (get_or-map (λ (x : Worker L). sent_in x.answers) now k d [] here_w) ∙ ap (λ l. get_or l k []) is.sents in
        record {
          lanes = map-set_same (λ (x : Worker L). x.lane) now k worker d (ap (λ (x : Worker L). x.lane) at_worker) ∙ is.lanes;
          sents = map-set_same (λ (x : Worker L). sent_in x.answers) now k worker d (same ∙ ap (λ (x : Worker L). sent_in x.answers) at_worker) ∙ is.sents;
          workers_count = length-set now k worker ∙ is.workers_count;
          count = length-set left k after ∙ is.count;
          same_workers = λ j x le. get_or-set_other now k j worker x (λ at. absurd (omega (arith, at, le))) ∙ is.same_workers j x (omega (arith, le));
          same_all_answers = λ j x le. get_or-set_other left k j after x (λ at. absurd (omega (arith, at, le))) ∙ is.same_all_answers j x (omega (arith, le));
          done = λ j r lt. ⊎_elim
              (λ at. subst (λ i. IsPrefix (given_by (get_or all_answers i r)) (sent_from workers i)) at
              (subst (λ (x : LaneAnswers). IsPrefix (given_by x) (sent_from workers k)) (at_answers ∙ get_or_default left k e r here_r ∙ is.same_all_answers k r (omega arith))
              (subst (IsPrefix (given_by e)) given_is front)))
              (λ not. is.done j r (omega (arith, lt, not)))
              (cases_eq k j);
        }
