-- The laws on shares, put together.
use Rattle.std.proofs.Common.{◌≡◌, ◌<◌, ◌≤◌, ◌≢◌, ℕ, Bool, true, false, cond, Option, List, [], ◌∷◌, ◌++◌, refl, sym, ap, ◌∙◌, subst, map, arith}
use Rattle.std.specs.Prelude.{◌==◌, filter}
use Rattle.std.specs.List.{All}
use Rattle.std.proofs.lemmas.List.{map-append}
use Rattle.std.proofs.lemmas.Bool.{eqb-true}
use Rattle.std.proofs.lemmas.List.Elements.{All-nil, All-cons, All-head, All-tail, All-weaker}
use mathlib.Core.List.{IsPrefix}
use Rattle.flow_table.specs.Key.{EndpointPair}
use Rattle.app_api.specs.declared.reaction.Verdict.{Verdict}
use Rattle.forest_versions.specs.State.{ControlState}
use Rattle.app_api.specs.App.{Meaning}
use Rattle.lane_core.specs.Sight.{Moment, Arrival}
use Rattle.lane_core.specs.Records.{VersionedPacket, versioned, records as lane_records, ended_at}
use Rattle.lane_composition.specs.Members.{Endings, Members, name_of, joined_by, ended_by_silence, records}
use Rattle.lane_composition.specs.Lanes.{share, part}
use Rattle.run_outcome.specs.Lanes.{lane_of}
use Rattle.lane_composition.specs.Named.{named, records_under}
use Rattle.lane_composition.specs.Judged.{judged}
use Rattle.lane_composition.specs.Counted.{total}
use Rattle.run_outcome.specs.Rising.{Rises, NeverFalls}
use Rattle.lane_composition.specs.Allowed.{versions_of, arrivals_of, IsWithin, IsAllowed, AreStamped}
use Rattle.lane_composition.specs.Runs.{judged_part, AreRuns}
use Rattle.lane_composition.specs.Histories.{over_by, with_history}
use Rattle.lane_composition.proofs.Restricted.{restricted, judged_restricted}
use Rattle.lane_composition.proofs.Joining.{of_lane, lanes_join, versioned_share}
use Rattle.lane_composition.proofs.Rising.{names_of, numbers_of}
use Rattle.lane_composition.proofs.Allowing.{lanes_are_runs, joined_allowed, continued_stamped}
use Rattle.lane_composition.proofs.Counting.{more_packets, part_at_most}
use Rattle.lane_composition.proofs.Judging.{judged_more}
use Rattle.lane_composition.proofs.Histories.{same_records, same_part, shown_first, final, final_first, ended_records}

-- two maps of versions that agree on some packets
same_versions : (u v : ℕ → ℕ) (ps : List Arrival) → All (λ a. u a.number ≡ v a.number) ps → versioned u ps ≡ versioned v ps
same_versions u v [] agree = refl
same_versions u v (p ∷ ps) agree =
    ap (λ n. record { version = n; arrival = p } ∷ versioned u ps) (All-head (λ a. u a.number ≡ v a.number) p ps agree)
    ∙ ap (λ l. record { version = v p.number; arrival = p } ∷ l) (same_versions u v ps (All-tail (λ a. u a.number ≡ v a.number) p ps agree))

nothing_falls : NeverFalls []
unfolding NeverFalls
nothing_falls = tt

above_here : (n : ℕ) (p : Arrival) (ps : List Arrival) (b : Bool) → n < p.number → All (λ k. n < k) (map (λ a. a.number) ps) → All (λ k. n < k) (map (λ a. a.number) (cond b (p ∷ ps) ps))
above_here n p ps true lt above = All-cons (λ k. n < k) p.number (map (λ a. a.number) ps) lt above
above_here n p ps false lt above = above

part_all_here : (P : ℕ → Type 0) (m : Members) (ms : List Members) (b : Bool) → P (name_of m) → All P (names_of ms) → All P (names_of (cond b (m ∷ ms) ms))
part_all_here P m ms true here all = All-cons P (name_of m) (names_of ms) here all
part_all_here P m ms false here all = all

-- one more number that all are apart from
All-both : (xs is : List ℕ) (x : ℕ) → All (λ i. i ≢ x) is → All (λ i. All (λ j. i ≢ j) xs) is → All (λ i. All (λ j. i ≢ j) (x ∷ xs)) is
All-both xs [] x apart each = All-nil (λ i. All (λ j. i ≢ j) (x ∷ xs))
All-both xs (i ∷ is) x apart each =
    All-cons (λ i. All (λ j. i ≢ j) (x ∷ xs)) i is
    (All-cons (λ j. i ≢ j) x xs (All-head (λ i. i ≢ x) i is apart) (All-head (λ i. All (λ j. i ≢ j) xs) i is each))
    (All-both xs is x (All-tail (λ i. i ≢ x) i is apart) (All-tail (λ i. All (λ j. i ≢ j) xs) i is each))

module _ (lane : EndpointPair → ℕ) (l : ℕ) (u v : ℕ → ℕ) (ps : List Arrival) (agree : All (λ a. u a.number ≡ v a.number) (share lane l ps)) where
  same_share : versioned u (share lane l ps) ≡ filter (of_lane lane l) (versioned v ps)
  same_share = same_versions u v (share lane l ps) agree ∙ versioned_share lane l v ps

  pub share_records : (endings : Endings) → records endings (versioned u (share lane l ps)) ≡ part lane l (records endings (versioned v ps))
  share_records endings = ap (λ qs. records endings qs) same_share ∙ restricted endings lane (λ k. k == l) [] (versioned v ps)

  pub share_verdicts : (endings : Endings) (judge : ℕ → List Arrival → Arrival → Verdict)
      → judged endings judge (versioned u (share lane l ps)) ≡ judged_part lane l (judged endings judge (versioned v ps))
  share_verdicts endings judge = ap (λ qs. judged endings judge qs) same_share ∙ judged_restricted endings lane (λ k. k == l) judge [] (versioned v ps)

  pub share_histories : (app : Meaning) (control_at : ℕ → ControlState)
      → lane_records app control_at (versioned u (share lane l ps)) ≡ filter (λ r. lane_of lane r.first.sight == l) (lane_records app control_at (versioned v ps))
  share_histories app control_at =
      same_records app control_at [] (versioned u (share lane l ps))
      ∙ ap (map (with_history app control_at)) (share_records (over_by app control_at))
      ∙ sym (same_part (with_history app control_at) (shown_first app control_at) (λ sight. lane_of lane sight == l) (records (over_by app control_at) (versioned v ps)))
      ∙ ap (filter (λ r. lane_of lane r.first.sight == l)) (sym (same_records app control_at [] (versioned v ps)))

  pub share_at_end : (app : Meaning) (control_at : ℕ → ControlState) (last : Option Moment)
      → map (ended_at app control_at last) (lane_records app control_at (versioned u (share lane l ps)))
      ≡ filter (λ r. lane_of lane r.first.sight == l) (map (ended_at app control_at last) (lane_records app control_at (versioned v ps)))
  share_at_end app control_at last =
      ended_records app control_at last (versioned u (share lane l ps))
      ∙ ap (map (final app control_at last)) (share_records (over_by app control_at))
      ∙ sym (same_part (final app control_at last) (final_first app control_at last) (λ sight. lane_of lane sight == l) (records (over_by app control_at) (versioned v ps)))
      ∙ ap (filter (λ r. lane_of lane r.first.sight == l)) (sym (ended_records app control_at last (versioned v ps)))

pub one_list : (endings : Endings) (lane : EndpointPair → ℕ) (packets : List Arrival) (parts : ℕ → List VersionedPacket)
    → ((l : ℕ) → arrivals_of (parts l) ≡ share lane l packets) → (vs : List ℕ) × AreRuns endings lane packets parts vs
one_list endings lane packets parts are = let j = lanes_join lane packets parts are in (versions_of (records endings j.stamped), lanes_are_runs endings lane packets parts j)

pub one_allowed : (floor ceil : ℕ → ℕ) (endings : Endings) (lane : EndpointPair → ℕ) (packets : List Arrival) (parts : ℕ → List VersionedPacket)
    → ((l : ℕ) → arrivals_of (parts l) ≡ share lane l packets) → ((l : ℕ) → AreStamped floor ceil (parts l))
    → (vs : List ℕ) × IsAllowed floor ceil endings lane packets vs × AreRuns endings lane packets parts vs
one_allowed floor ceil endings lane packets parts are stamped =
    let j = lanes_join lane packets parts are in
    (versions_of (records endings j.stamped), joined_allowed endings lane packets parts j floor ceil stamped, lanes_are_runs endings lane packets parts j)

-- the numbers of a share rise as those of all packets do
share_above : (lane : EndpointPair → ℕ) (l n : ℕ) (ps : List Arrival) → All (λ k. n < k) (map (λ a. a.number) ps) → All (λ k. n < k) (map (λ a. a.number) (share lane l ps))
share_above lane l n [] above = All-nil (λ k. n < k)
share_above lane l n (p ∷ ps) above =
    above_here n p (share lane l ps) (lane_of lane p.sight == l) (All-head (λ k. n < k) p.number (map (λ a. a.number) ps) above)
    (share_above lane l n ps (All-tail (λ k. n < k) p.number (map (λ a. a.number) ps) above))

rises_here : (p : Arrival) (ps : List Arrival) (b : Bool) → All (λ k. p.number < k) (map (λ a. a.number) ps) → Rises (map (λ a. a.number) ps) → Rises (map (λ a. a.number) (cond b (p ∷ ps) ps))
unfolding Rises
rises_here p ps true above rises = (above, rises)
rises_here p ps false above rises = rises

share_rises : (lane : EndpointPair → ℕ) (l : ℕ) (ps : List Arrival) → Rises (map (λ a. a.number) ps) → Rises (map (λ a. a.number) (share lane l ps))
unfolding Rises
share_rises lane l [] rises = tt
share_rises lane l (p ∷ ps) rises = rises_here p (share lane l ps) (lane_of lane p.sight == l) (share_above lane l p.number ps rises.0) (share_rises lane l ps rises.1)

pub arrivals_versioned : (v : ℕ → ℕ) (ps : List Arrival) → arrivals_of (versioned v ps) ≡ ps
arrivals_versioned v [] = refl
arrivals_versioned v (p ∷ ps) = ap (λ l. p ∷ l) (arrivals_versioned v ps)

numbers_of_arrivals : (ps : List VersionedPacket) → map (λ a. a.number) (arrivals_of ps) ≡ numbers_of ps
numbers_of_arrivals [] = refl
numbers_of_arrivals (p ∷ ps) = ap (λ l. p.arrival.number ∷ l) (numbers_of_arrivals ps)

module _ (floor ceil : ℕ → ℕ) (between : (n : ℕ) → floor n ≤ ceil n) (rises : (n m : ℕ) → n ≤ m → ceil n ≤ ceil m) (endings : Endings) (lane : EndpointPair → ℕ) (packets : List Arrival)
    (numbered : Rises (map (λ a. a.number) packets)) where
  -- lanes that ran fronts of their shares: the ceilings go on
  pub continued : (parts : ℕ → List VersionedPacket) (rest : ℕ → List Arrival) → ((l : ℕ) → arrivals_of (parts l) ++ rest l ≡ share lane l packets) → ((l : ℕ) → AreStamped floor ceil (parts l))
      → (vs : List ℕ) × IsAllowed floor ceil endings lane packets vs × AreRuns endings lane packets (λ l. parts l ++ versioned ceil (rest l)) vs
  continued parts rest are stamped =
      one_allowed floor ceil endings lane packets (λ l. parts l ++ versioned ceil (rest l))
      (λ l. map-append (λ p. p.arrival) (parts l) (versioned ceil (rest l)) ∙ ap (λ x. arrivals_of (parts l) ++ x) (arrivals_versioned ceil (rest l)) ∙ are l)
      (λ l. continued_stamped floor ceil between rises (parts l) (rest l)
      (subst Rises (ap (map (λ a. a.number)) (sym (are l)) ∙ map-append (λ a. a.number) (arrivals_of (parts l)) (rest l) ∙ ap (λ x. x ++ map (λ a. a.number) (rest l)) (numbers_of_arrivals (parts l)))
      (share_rises lane l packets numbered))
      (stamped l))

  -- where none ran any packet, all versions are ceilings
  pub ceilings_allowed : IsAllowed floor ceil endings lane packets (versions_of (records endings (versioned ceil packets)))
  ceilings_allowed =
      joined_allowed endings lane packets (λ l. versioned ceil (share lane l packets))
      (record { stamped = versioned ceil packets; packets = arrivals_versioned ceil packets; of_lanes = λ l. sym (versioned_share lane l ceil packets) }) floor ceil
      (λ l. continued_stamped floor ceil between rises [] (share lane l packets) (share_rises lane l packets numbered)
      (record { within = All-nil (λ p. IsWithin floor ceil p.version p.arrival.number); along = nothing_falls }))

module _ (endings : Endings) (lane : EndpointPair → ℕ) (packets : List Arrival) (parts more : ℕ → List VersionedPacket) (vs : List ℕ)
    (runs : AreRuns endings lane packets (λ l. parts l ++ more l) vs) where
  -- what a lane ran lies within what the list makes of all packets
  pub front_weighs : (count : Members → ℕ) → ((a : Arrival) (m : Members) → count m ≤ count (joined_by a m)) → ((m : Members) → count m ≤ count (ended_by_silence m)) → (l : ℕ)
      → total count (records endings (parts l)) ≤ total count (records_under endings vs packets)
  front_weighs count grows ends l =
      let most = more_packets endings count grows ends [] (parts l) (more l) in
      let is = ap (total count) (runs.parts_are l) in
      let all = part_at_most lane count l (records_under endings vs packets) in omega arith

  pub front_verdicts : (judge : ℕ → List Arrival → Arrival → Verdict) (l : ℕ) → IsPrefix (judged endings judge (parts l)) (judged_part lane l (judged endings judge (named endings vs packets)))
  front_verdicts judge l = (_, judged_more endings judge [] (parts l) (more l) ∙ sym (runs.verdicts_are judge l))

-- records of different lanes have different names
module _ (lane : EndpointPair → ℕ) where
  part_all : (P : ℕ → Type 0) (l : ℕ) (ms : List Members) → All P (names_of ms) → All P (names_of (part lane l ms))
  part_all P l [] all = All-nil P
  part_all P l (m ∷ ms) all = part_all_here P m (part lane l ms) (lane_of lane m.first.sight == l) (All-head P (name_of m) (names_of ms) all)
      (part_all P l ms (All-tail P (name_of m) (names_of ms) all))

  apart_here : (k l : ℕ) (m : Members) (ms : List Members) → All (λ j. name_of m < j) (names_of ms) → (lane_of lane m.first.sight ≡ l → lane_of lane m.first.sight ≡ k → ⊥) → (b c : Bool)
      → (lane_of lane m.first.sight == l) ≡ b → (lane_of lane m.first.sight == k) ≡ c
      → All (λ i. All (λ j. i ≢ j) (names_of (part lane k ms))) (names_of (part lane l ms))
      → All (λ i. All (λ j. i ≢ j) (names_of (cond c (m ∷ part lane k ms) (part lane k ms)))) (names_of (cond b (m ∷ part lane l ms) (part lane l ms)))
  apart_here k l m ms above other true true isl isk rest = absurd (other (eqb-true _ _ isl) (eqb-true _ _ isk))
  apart_here k l m ms above other true false isl isk rest =
      All-cons (λ i. All (λ j. i ≢ j) (names_of (part lane k ms))) (name_of m) (names_of (part lane l ms))
      (All-weaker (λ j. name_of m < j) (λ j. name_of m ≢ j) (λ j lt. λ e. omega arith) (names_of (part lane k ms)) (part_all (λ j. name_of m < j) k ms above)) rest
  apart_here k l m ms above other false true isl isk rest =
      All-both (names_of (part lane k ms)) (names_of (part lane l ms)) (name_of m)
      (All-weaker (λ j. name_of m < j) (λ j. j ≢ name_of m) (λ j lt. λ e. omega arith) (names_of (part lane l ms)) (part_all (λ j. name_of m < j) l ms above)) rest
  apart_here k l m ms above other false false isl isk rest = rest

  pub names_apart : (k l : ℕ) → k ≢ l → (ms : List Members) → Rises (names_of ms) → All (λ i. All (λ j. i ≢ j) (names_of (part lane k ms))) (names_of (part lane l ms))
  unfolding Rises
  names_apart k l other [] rises = All-nil (λ i. All (λ j. i ≢ j) (names_of (part lane k [])))
  names_apart k l other (m ∷ ms) rises =
      apart_here k l m ms rises.0 (λ a b. other (sym b ∙ a)) (lane_of lane m.first.sight == l) (lane_of lane m.first.sight == k) refl refl (names_apart k l other ms rises.1)
