-- What was given out of the answers of all lanes, where one of them gave more.
use Rattle.std.proofs.Common.{◌≡◌, ◌<◌, ℕ, List, [], ◌∷◌, ◌++◌, length, map, set, get_or, refl, sym, ap, subst, ◌∙◌, ⊎_elim, append-nil, arith}
use Rattle.std.proofs.lemmas.Bool.{cases_eq, cases_lt}
use Rattle.std.proofs.lemmas.List.{length-map, length-set, get_or_default, get_or_past, get_or-map, map-set, get_or-set_same, get_or-set_other}
use Rattle.lane_rings.specs.declared.items.Answer.{Answer}
use Rattle.lane_rings.specs.Ring.{SameRx}
use Rattle.lane_worker.specs.declared.worker.Worker.{Worker}
use Rattle.forward_dispatch.specs.declared.lane_answers.LaneAnswers.{LaneAnswers}
use Rattle.forward_dispatch.specs.Given.{given_by, given_from, Gives}
use Rattle.forward_dispatch.specs.OnTheirWay.{SameRings}
use Rattle.forward_dispatch.specs.Streamed.{AreLaneAnswers}
use Rattle.lane_worker.proofs.Rings.{SameRx-refl, SameRx-trans, SameTx-refl}
use Rattle.lane_worker.proofs.Beside.{ends_after}

pub same_rings : (a : List LaneAnswers) → SameRings a a
same_rings a = record { count = refl; each = λ k r lt. SameRx-refl (get_or a k r).ring }

pub rings_then : (a b c : List LaneAnswers) → SameRings a b → SameRings b c → SameRings a c
rings_then a b c p q = record {
  count = q.count ∙ p.count;
  each = λ k r lt. SameRx-trans (get_or a k r).ring (get_or b k r).ring (get_or c k r).ring (p.each k r lt) (q.each k r (let e = p.count in omega (arith, e, lt)));
}

-- they are still the answers of these workers
pub answers_after : {L : Type 0} (begins : List (Worker L)) (a b : List LaneAnswers) → SameRings a b → AreLaneAnswers begins a → AreLaneAnswers begins b
answers_after begins a b same are = record {
  count = are.count ∙ sym same.count;
  answered = λ k w r lt.
      let below : k < length a = (let e = same.count in omega (arith, e, lt)) in
      let p = are.answered k w r below in
      record {
        ring = p.ring;
        answers = p.answers;
        unsent = p.unsent;
        ends = ends_after p.ring p.ring (get_or a k r).ring (get_or b k r).ring p.ends (SameTx-refl p.ring) (same.each k r below);
      };
}

-- none was given out of any
pub none_from : (all_answers : List LaneAnswers) → ((k : ℕ) (r : LaneAnswers) → k < length all_answers → given_by (get_or all_answers k r) ≡ []) → (l : ℕ) → given_from all_answers l ≡ []
none_from [] none l = refl
none_from (r ∷ all_answers) none l = ⊎_elim
    (λ lt. get_or-map given_by (r ∷ all_answers) l r [] lt ∙ none l r lt)
    (λ le. get_or_past (map given_by (r ∷ all_answers)) l [] (let c = length-map (r ∷ all_answers) given_by in omega (arith, c, le)))
    (cases_lt l (length (r ∷ all_answers)))

-- lane k gave these
module _ (all_answers : List LaneAnswers) (k : ℕ) (e now : LaneAnswers) (xs : List Answer) (below : k < length all_answers) (at : e ≡ get_or all_answers k e) (gives : Gives e now xs) where
  below_m : k < length (map given_by all_answers)
  below_m = let c = length-map all_answers given_by in omega (arith, c, below)

  set_m : (l : ℕ) → given_from (set all_answers k now) l ≡ get_or (set (map given_by all_answers) k (given_by now)) l []
  set_m l = ap (λ m. get_or m l []) (map-set given_by all_answers k now)

  pub given_here : given_from (set all_answers k now) k ≡ given_from all_answers k ++ xs
  given_here =
      set_m k ∙ get_or-set_same (map given_by all_answers) k (given_by now) [] below_m ∙ gives.given
      ∙ ap (λ (r : LaneAnswers). given_by r ++ xs) at ∙ ap (λ l. l ++ xs) (sym (get_or-map given_by all_answers k e [] below))

  pub given_other : (l : ℕ) → (l ≡ k → ⊥) → given_from (set all_answers k now) l ≡ given_from all_answers l
  given_other l other = set_m l ∙ get_or-set_other (map given_by all_answers) k l (given_by now) [] other

  pub rings_one : SameRings all_answers (set all_answers k now)
  rings_one = record {
    count = length-set all_answers k now;
    each = λ j r lt. ⊎_elim
        (λ is. subst (λ i. SameRx (get_or all_answers i r).ring (get_or (set all_answers k now) i r).ring) is
        (subst (λ (x : LaneAnswers). SameRx (get_or all_answers k r).ring x.ring) (sym (get_or-set_same all_answers k now r below))
        (subst (λ (x : LaneAnswers). SameRx x.ring now.ring) (at ∙ get_or_default all_answers k e r below) gives.ring)))
        (λ not. subst (λ (x : LaneAnswers). SameRx (get_or all_answers j r).ring x.ring) (sym (get_or-set_other all_answers k j now r (λ is. not (sym is))))
        (SameRx-refl (get_or all_answers j r).ring))
        (cases_eq k j);
  }

pub given_none : (all_answers : List LaneAnswers) (k : ℕ) (e now : LaneAnswers) → k < length all_answers → e ≡ get_or all_answers k e → Gives e now [] → (l : ℕ)
    → given_from (set all_answers k now) l ≡ given_from all_answers l
given_none all_answers k e now below at gives l = ⊎_elim
    (λ is. subst (λ i. given_from (set all_answers k now) i ≡ given_from all_answers i) (sym is) (given_here all_answers k e now [] below at gives ∙ append-nil (given_from all_answers k)))
    (λ other. given_other all_answers k e now [] below at gives l other)
    (cases_eq l k)
