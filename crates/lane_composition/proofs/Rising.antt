-- Numbers that rise, or don't fall, still do where some are left out.
use Rattle.std.proofs.Common.{◌≡◌, ◌<◌, ◌≤◌, ℕ, Bool, true, false, List, [], ◌∷◌, ◌++◌, refl, sym, ap, ◌∙◌, subst, map, ⊎_elim, append_assoc, append-nil}
use Rattle.std.specs.Prelude.{if◌then◌else◌, ◌||◌}
use Rattle.std.specs.List.{All, list_any}
use Rattle.std.proofs.lemmas.List.{map-append}
use Rattle.std.proofs.lemmas.Bool.{cases_Bool}
use Rattle.std.proofs.lemmas.List.Elements.{All-nil, All-cons, All-head, All-tail, All-map}
use Rattle.lane_core.specs.Sight.{Arrival}
use Rattle.lane_core.specs.Records.{VersionedPacket}
use Rattle.lane_composition.specs.Members.{Endings, Members, begun_by, joined_by, ended_by_silence, name_of, takes, found, placed, added, records_from}
use Rattle.run_outcome.specs.Rising.{Rises, NeverFalls}
use Rattle.lane_composition.proofs.Silence.{of_found}
use Rattle.lane_composition.proofs.Naming.{added_new}

pub All-unmap : {T X : Type 0} (P : T → Type 0) (f : X → T) (xs : List X) → All P (map f xs) → All (λ x. P (f x)) xs
All-unmap P f [] all = All-nil (λ x. P (f x))
All-unmap P f (x ∷ xs) all = All-cons (λ y. P (f y)) x xs (All-head P (f x) (map f xs) all) (All-unmap P f xs (All-tail P (f x) (map f xs) all))

-- one left out of the middle
pub All-without : {T : Type 0} (P : T → Type 0) (xs : List T) (y : T) (ys : List T) → All P (xs ++ y ∷ ys) → All P (xs ++ ys)
All-without P [] y ys all = All-tail P y ys all
All-without P (x ∷ xs) y ys all = All-cons P x (xs ++ ys) (All-head P x (xs ++ y ∷ ys) all) (All-without P xs y ys (All-tail P x (xs ++ y ∷ ys) all))

pub All-front : {T : Type 0} (P : T → Type 0) (xs ys : List T) → All P (xs ++ ys) → All P xs
All-front P [] ys all = All-nil P
All-front P (x ∷ xs) ys all = All-cons P x xs (All-head P x (xs ++ ys) all) (All-front P xs ys (All-tail P x (xs ++ ys) all))

Rises-without : (xs : List ℕ) (y : ℕ) (ys : List ℕ) → Rises (xs ++ y ∷ ys) → Rises (xs ++ ys)
unfolding Rises
Rises-without [] y ys rises = rises.1
Rises-without (x ∷ xs) y ys rises = (All-without (λ k. x < k) xs y ys rises.0, Rises-without xs y ys rises.1)

NeverFalls-without : (xs : List ℕ) (y : ℕ) (ys : List ℕ) → NeverFalls (xs ++ y ∷ ys) → NeverFalls (xs ++ ys)
unfolding NeverFalls
NeverFalls-without [] y ys along = along.1
NeverFalls-without (x ∷ xs) y ys along = (All-without (λ k. x ≤ k) xs y ys along.0, NeverFalls-without xs y ys along.1)

abbrev pub names_of : List Members → List ℕ
names_of ms = map name_of ms

abbrev pub numbers_of : List VersionedPacket → List ℕ
numbers_of ps = map (λ p. p.arrival.number) ps

-- What a record has from its first packet alone, as its name or its version, of records and the packets after them: where it holds
-- with one left out, it holds of the records of all.
module _ {T : Type 0} (endings : Endings) (of : Members → T) (by : VersionedPacket → T) (begun : (p : VersionedPacket) → of (begun_by p) ≡ by p)
    (joined : (a : Arrival) (m : Members) → of (joined_by a m) ≡ of m) (silent : (m : Members) → of (ended_by_silence m) ≡ of m) where
  of_stays_here : (p : VersionedPacket) (m : Members) (ms after : List Members) (b rest : Bool) → (b || rest) ≡ true → (rest ≡ true → map of after ≡ map of ms)
      → map of (if b then joined_by p.arrival m ∷ ms else m ∷ after) ≡ map of (m ∷ ms)
  of_stays_here p m ms after true rest some later = ap (λ x. x ∷ map of ms) (joined p.arrival m)
  of_stays_here p m ms after false rest some later = ap (λ l. of m ∷ l) (later some)

  of_placed : (p : VersionedPacket) (ms : List Members) → list_any (takes endings p.arrival.sight) ms ≡ true → map of (placed endings p ms) ≡ map of ms
  unfolding placed
  of_placed p [] some = absurd (cc)
  of_placed p (m ∷ ms) some = of_stays_here p m ms (placed endings p ms) (takes endings p.arrival.sight m) (list_any (takes endings p.arrival.sight) ms) some (of_placed p ms)

  of_stays : (p : VersionedPacket) (ms : List Members) → list_any (takes endings p.arrival.sight) (found endings p.arrival ms) ≡ true → map of (added endings p ms) ≡ map of ms
  of_stays p ms some = of_placed p (found endings p.arrival ms) some ∙ of_found endings of silent p.arrival ms

  of_new : (p : VersionedPacket) (ms : List Members) → list_any (takes endings p.arrival.sight) (found endings p.arrival ms) ≡ false → map of (added endings p ms) ≡ map of ms ++ by p ∷ []
  of_new p ms none =
      ap (map of) (added_new endings p ms none) ∙ map-append of (found endings p.arrival ms) (begun_by p ∷ [])
      ∙ ap (λ x. map of (found endings p.arrival ms) ++ x ∷ []) (begun p) ∙ ap (λ l. l ++ by p ∷ []) (of_found endings of silent p.arrival ms)

  of_step : (p : VersionedPacket) (ms : List Members) → (more : List T) × (map of (added endings p ms) ≡ map of ms ++ more)
  of_step p ms = ⊎_elim (λ some. ([], of_stays p ms some ∙ sym (append-nil (map of ms)))) (λ none. (by p ∷ [], of_new p ms none))
      (cases_Bool (list_any (takes endings p.arrival.sight) (found endings p.arrival ms)))

  -- later packets leave it as it is
  pub of_front : (ms : List Members) (ps : List VersionedPacket) → (more : List T) × (map of (records_from endings ms ps) ≡ map of ms ++ more)
  unfolding records_from
  of_front ms [] = ([], sym (append-nil (map of ms)))
  of_front ms (p ∷ ps) =
      let step = of_step p ms in
      let rest = of_front (added endings p ms) ps in
      (step.0 ++ rest.0, rest.1 ∙ ap (λ l. l ++ rest.0) step.1 ∙ append_assoc (map of ms) step.0 rest.0)

  module _ (Holds : List T → Type 0) (without : (xs : List T) (y : T) (ys : List T) → Holds (xs ++ y ∷ ys) → Holds (xs ++ ys)) where
    holds_step : (p : VersionedPacket) (ms : List Members) (rest : List T) → Holds (map of ms ++ by p ∷ rest) → Holds (map of (added endings p ms) ++ rest)
    holds_step p ms rest holds = ⊎_elim
        (λ some. subst (λ l. Holds (l ++ rest)) (sym (of_stays p ms some)) (without (map of ms) (by p) rest holds))
        (λ none. subst (λ l. Holds (l ++ rest)) (sym (of_new p ms none)) (subst Holds (sym (append_assoc (map of ms) (by p ∷ []) rest)) holds))
        (cases_Bool (list_any (takes endings p.arrival.sight) (found endings p.arrival ms)))

    pub holds_of_records : (ms : List Members) (ps : List VersionedPacket) → Holds (map of ms ++ map by ps) → Holds (map of (records_from endings ms ps))
    unfolding records_from
    holds_of_records ms [] holds = subst Holds (append-nil (map of ms)) holds
    holds_of_records ms (p ∷ ps) holds = holds_of_records (added endings p ms) ps (holds_step p ms (map by ps) holds)

module _ (endings : Endings) where
  -- the names of records rise as the numbers of packets do
  pub names_rise : (ps : List VersionedPacket) → Rises (numbers_of ps) → Rises (names_of (records_from endings [] ps))
  names_rise ps rises = holds_of_records endings name_of (λ p. p.arrival.number) (λ p. refl) (λ a m. refl) (λ m. refl) Rises Rises-without [] ps rises

  -- the versions of records don't fall where those of packets don't
  pub versions_along : (ps : List VersionedPacket) → NeverFalls (map (λ p. p.version) ps) → NeverFalls (map (λ m. m.version) (records_from endings [] ps))
  versions_along ps along = holds_of_records endings (λ m. m.version) (λ p. p.version) (λ p. refl) (λ a m. refl) (λ m. refl) NeverFalls NeverFalls-without [] ps along

  -- what holds of each packet's version and number holds of each record's version and name
  pub all_of_records : (P : ℕ → ℕ → Type 0) (ps : List VersionedPacket) → All (λ p. P p.version p.arrival.number) ps → All (λ m. P m.version (name_of m)) (records_from endings [] ps)
  all_of_records P ps all =
      let pairs : All (λ (x : ℕ × ℕ). P x.0 x.1) (map (λ m. (m.version, name_of m)) (records_from endings [] ps)) =
      holds_of_records endings (λ m. (m.version, name_of m)) (λ p. (p.version, p.arrival.number)) (λ p. refl) (λ a m. refl) (λ m. refl) (All (λ (x : ℕ × ℕ). P x.0 x.1))
      (All-without (λ (x : ℕ × ℕ). P x.0 x.1)) [] ps
      (All-map (λ (x : ℕ × ℕ). P x.0 x.1) (λ p. (p.version, p.arrival.number)) ps all) in
      All-unmap (λ (x : ℕ × ℕ). P x.0 x.1) (λ m. (m.version, name_of m)) (records_from endings [] ps) pairs
