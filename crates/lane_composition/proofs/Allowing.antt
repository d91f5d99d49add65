-- Versions of lanes make one allowed list.
use Rattle.std.proofs.Common.{◌≡◌, ◌<◌, ◌≤◌, ℕ, Bool, true, false, cond, List, [], ◌∷◌, ◌++◌, length, refl, sym, ap, ◌∙◌, subst, map, arith}
use Rattle.std.specs.Prelude.{◌==◌, filter}
use Rattle.std.specs.List.{All}
use Rattle.std.proofs.lemmas.List.{length-map, map-append}
use Rattle.std.proofs.lemmas.Bool.{eq-eqb}
use Rattle.std.proofs.lemmas.List.Elements.{All-nil, All-cons, All-head, All-tail, All-append}
use Rattle.flow_table.specs.Key.{EndpointPair}
use Rattle.lane_core.specs.Sight.{Arrival}
use Rattle.lane_core.specs.Records.{VersionedPacket, versioned}
use Rattle.lane_composition.specs.Members.{Endings, name_of, records_from, records}
use Rattle.lane_composition.specs.Lanes.{part}
use Rattle.run_outcome.specs.Lanes.{lane_of}
use Rattle.lane_composition.specs.Named.{named_from, records_under}
use Rattle.lane_composition.specs.Judged.{judged_from}
use Rattle.run_outcome.specs.Rising.{Rises, NeverFalls}
use Rattle.lane_composition.specs.Allowed.{versions_of, IsWithin, IsAllowed, AreStamped}
use Rattle.lane_composition.specs.Runs.{judged_part, AreRuns}
use Rattle.lane_composition.proofs.Restricted.{restricted, judged_restricted}
use Rattle.lane_composition.proofs.Naming.{named_again, judged_again}
use Rattle.lane_composition.proofs.Joining.{of_lane, IsJoined}
use Rattle.lane_composition.proofs.Rising.{versions_along, all_of_records, numbers_of}

all_behind : (P : VersionedPacket → Type 0) (p : VersionedPacket) (ps : List VersionedPacket) (b : Bool) → All P (cond b (p ∷ ps) ps) → All P ps
all_behind P p ps true all = All-tail P p ps all
all_behind P p ps false all = all

all_end : (P : ℕ → Type 0) (xs ys : List ℕ) → All P (xs ++ ys) → All P ys
all_end P [] ys all = all
all_end P (x ∷ xs) ys all = all_end P xs ys (All-tail P x (xs ++ ys) all)

-- what holds in each lane's part holds of all
all_of_parts : (lane : EndpointPair → ℕ) (P : VersionedPacket → Type 0) (ps : List VersionedPacket) → ((l : ℕ) → All P (filter (of_lane lane l) ps)) → All P ps
all_of_parts lane P [] each = All-nil P
all_of_parts lane P (p ∷ ps) each =
    let own = eq-eqb (lane_of lane p.arrival.sight) (lane_of lane p.arrival.sight) refl in
    let here : All P (p ∷ filter (of_lane lane (lane_of lane p.arrival.sight)) ps) =
    subst (λ b. All P (cond b (p ∷ filter (of_lane lane (lane_of lane p.arrival.sight)) ps) (filter (of_lane lane (lane_of lane p.arrival.sight)) ps))) own (each (lane_of lane p.arrival.sight)) in
    All-cons P p ps (All-head P p (filter (of_lane lane (lane_of lane p.arrival.sight)) ps) here)
    (all_of_parts lane P ps (λ l. all_behind P p (filter (of_lane lane l) ps) (lane_of lane p.arrival.sight == l) (each l)))

module _ (endings : Endings) (lane : EndpointPair → ℕ) (packets : List Arrival) (parts : ℕ → List VersionedPacket) (j : IsJoined lane packets parts) where
  listed_same : records_under endings (versions_of (records endings j.stamped)) packets ≡ records endings j.stamped
  listed_same =
      let vs = versions_of (records endings j.stamped) in
      ap (λ rest. records_from endings [] (named_from endings vs [] rest)) (sym j.packets) ∙ named_again endings vs [] j.stamped refl

  lane_records : (l : ℕ) → part lane l (records endings j.stamped) ≡ records endings (parts l)
  lane_records l = sym (restricted endings lane (λ k. k == l) [] j.stamped) ∙ ap (λ ps. records endings ps) (j.of_lanes l)

  pub lanes_are_runs : AreRuns endings lane packets parts (versions_of (records endings j.stamped))
  lanes_are_runs = record {
    parts_are = λ l. ap (part lane l) listed_same ∙ lane_records l;
    verdicts_are = λ judge l.
        let vs = versions_of (records endings j.stamped) in
        ap (λ rest. judged_part lane l (judged_from endings judge [] (named_from endings vs [] rest))) (sym j.packets)
        ∙ ap (judged_part lane l) (judged_again endings judge vs [] j.stamped refl)
        ∙ sym (judged_restricted endings lane (λ k. k == l) judge [] j.stamped) ∙ ap (λ ps. judged_from endings judge [] ps) (j.of_lanes l);
  }

  pub joined_allowed : (floor ceil : ℕ → ℕ) → ((l : ℕ) → AreStamped floor ceil (parts l)) → IsAllowed floor ceil endings lane packets (versions_of (records endings j.stamped))
  joined_allowed floor ceil stamped = record {
    count = length-map (records endings j.stamped) (λ m. m.version) ∙ ap length (sym listed_same);
    within = subst (λ ms. All (λ m. IsWithin floor ceil m.version (name_of m)) ms) (sym listed_same)
        (all_of_records endings (IsWithin floor ceil) j.stamped
        (all_of_parts lane (λ p. IsWithin floor ceil p.version p.arrival.number) j.stamped
        (λ l. subst (All (λ p. IsWithin floor ceil p.version p.arrival.number)) (sym (j.of_lanes l)) (stamped l).within)));
    along = λ l. subst (λ ms. NeverFalls (versions_of ms)) (sym (ap (part lane l) listed_same ∙ lane_records l)) (versions_along endings (parts l) (stamped l).along);
  }

-- a lane's front, and then its other packets each with its ceiling
module _ (floor ceil : ℕ → ℕ) (between : (n : ℕ) → floor n ≤ ceil n) (rises : (n m : ℕ) → n ≤ m → ceil n ≤ ceil m) where
  ceilings_above : (v n : ℕ) → v ≤ ceil n → (rest : List Arrival) → All (λ k. n < k) (map (λ a. a.number) rest) → All (λ k. v ≤ k) (map (λ p. p.version) (versioned ceil rest))
  ceilings_above v n below [] above = All-nil (λ k. v ≤ k)
  ceilings_above v n below (a ∷ rest) above =
      let first = All-head (λ k. n < k) a.number (map (λ a. a.number) rest) above in
      let more = rises n a.number (omega arith) in
      All-cons (λ k. v ≤ k) (ceil a.number) (map (λ p. p.version) (versioned ceil rest)) (omega arith)
      (ceilings_above v n below rest (All-tail (λ k. n < k) a.number (map (λ a. a.number) rest) above))

  ceilings_stamped : (rest : List Arrival) → Rises (map (λ a. a.number) rest) → AreStamped floor ceil (versioned ceil rest)
  unfolding Rises NeverFalls
  ceilings_stamped [] r = record { within = All-nil (λ p. IsWithin floor ceil p.version p.arrival.number); along = tt }
  ceilings_stamped (a ∷ rest) r =
      let before = ceilings_stamped rest r.1 in record {
        within = All-cons (λ p. IsWithin floor ceil p.version p.arrival.number) (record { version = ceil a.number; arrival = a }) (versioned ceil rest) (between a.number, omega arith) before.within;
        along = (ceilings_above (ceil a.number) a.number (omega arith) rest r.0, before.along);
      }

  pub continued_stamped : (ps : List VersionedPacket) (rest : List Arrival) → Rises (numbers_of ps ++ map (λ a. a.number) rest) → AreStamped floor ceil ps
      → AreStamped floor ceil (ps ++ versioned ceil rest)
  unfolding Rises NeverFalls
  continued_stamped [] rest r stamped = ceilings_stamped rest r
  continued_stamped (p ∷ ps) rest r stamped =
      let W = λ (q : VersionedPacket). IsWithin floor ceil q.version q.arrival.number in
      let here = All-head W p ps stamped.within in
      let later = continued_stamped ps rest r.1 (record { within = All-tail W p ps stamped.within; along = stamped.along.1 }) in
      let behind : All (λ k. p.arrival.number < k) (map (λ a. a.number) rest) = all_end (λ k. p.arrival.number < k) (numbers_of ps) (map (λ a. a.number) rest) r.0 in
      record {
        within = All-cons W p (ps ++ versioned ceil rest) here later.within;
        along = (
          subst (All (λ k. p.version ≤ k)) (sym (map-append (λ q. q.version) ps (versioned ceil rest)))
              (All-append (λ k. p.version ≤ k) (map (λ q. q.version) ps) (map (λ q. q.version) (versioned ceil rest)) stamped.along.0 (ceilings_above p.version p.arrival.number here.1 rest behind)),
          later.along,
        );
      }
