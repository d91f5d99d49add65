-- The records that the lanes show, merged, are those that one run shows.
use Rattle.std.proofs.Common.{◌≡◌, ◌<◌, ℕ, Bool, true, false, cond, List, [], ◌∷◌, refl, sym, ap, ◌∙◌, subst, map, arith}
use Rattle.std.specs.Prelude.{if◌then◌else◌, ◌==◌, filter}
use Rattle.std.specs.List.{All}
use Rattle.std.proofs.lemmas.Bool.{eq-eqb, ne_eqb, eqb-true}
use Rattle.std.proofs.lemmas.List.Elements.{All-nil, All-cons, All-head, All-tail}
use Rattle.flow_table.specs.Key.{EndpointPair}
use Rattle.report_text.specs.declared.record.Record.{Record}
use Rattle.lane_core.specs.Sight.{Arrival}
use Rattle.lane_core.specs.Records.{VersionedPacket}
use Rattle.lane_composition.specs.Members.{Endings, Members, name_of, added}
use Rattle.lane_composition.specs.Lanes.{part}
use Rattle.run_outcome.specs.Lanes.{lane_of}
use Rattle.lane_composition.specs.Named.{named_by, named_from, named, records_under}
use Rattle.run_outcome.specs.Rising.{Rises}
use Rattle.lane_composition.specs.Allowed.{arrivals_of}
use Rattle.lane_composition.specs.Merge.{list_at, names_in, AreOfLanes, IsMerge, lane_at, shown_name}
use Rattle.lane_composition.proofs.Parts.{same_parts}
use Rattle.lane_composition.proofs.Rising.{All-without, All-unmap, holds_of_records, names_of, numbers_of, names_rise}

-- a list of versions leaves the packets as they are
pub named_packets : (endings : Endings) (vs : List ℕ) (ms : List Members) (ps : List Arrival) → arrivals_of (named_from endings vs ms ps) ≡ ps
unfolding named_from
named_packets endings vs ms [] = refl
named_packets endings vs ms (a ∷ ps) = ap (λ l. a ∷ l) (named_packets endings vs (added endings (named_by vs ms a) ms) ps)

pub named_numbers : (ps : List VersionedPacket) → numbers_of ps ≡ map (λ a. a.number) (arrivals_of ps)
named_numbers [] = refl
named_numbers (p ∷ ps) = ap (λ l. p.arrival.number ∷ l) (named_numbers ps)

-- what holds of each packet holds of each first packet
all_of_firsts : (P : Arrival → Type 0) (endings : Endings) (vs : List ℕ) (ps : List Arrival) → All P ps → All (λ m. P m.first) (records_under endings vs ps)
all_of_firsts P endings vs ps all =
    All-unmap P (λ m. m.first) (records_under endings vs ps)
    (holds_of_records endings (λ m. m.first) (λ p. p.arrival) (λ p. refl) (λ a m. refl) (λ m. refl) (All P) (All-without P) [] (named endings vs ps)
    (subst (All P) (sym (named_packets endings vs [] ps)) all))

-- the lane of a packet by its number
lane_here : (lane : EndpointPair → ℕ) (a : Arrival) (ps : List Arrival) → lane_at lane (a ∷ ps) a.number ≡ lane_of lane a.sight
unfolding lane_at
lane_here lane a ps = let e = eq-eqb a.number a.number refl in ap (λ b. if b then lane_of lane a.sight else lane_at lane ps a.number) e

lane_there : (lane : EndpointPair → ℕ) (a : Arrival) (ps : List Arrival) (n : ℕ) → a.number < n → lane_at lane (a ∷ ps) n ≡ lane_at lane ps n
unfolding lane_at
lane_there lane a ps n lt = let e = ne_eqb a.number n (λ same. omega arith) in ap (λ b. if b then lane_of lane a.sight else lane_at lane ps n) e

lanes_there : (lane : EndpointPair → ℕ) (a : Arrival) (ps qs : List Arrival) → All (λ k. a.number < k) (map (λ b. b.number) qs) → All (λ b. lane_at lane ps b.number ≡ lane_of lane b.sight) qs
    → All (λ b. lane_at lane (a ∷ ps) b.number ≡ lane_of lane b.sight) qs
lanes_there lane a ps [] above all = All-nil (λ b. lane_at lane (a ∷ ps) b.number ≡ lane_of lane b.sight)
lanes_there lane a ps (q ∷ qs) above all =
    All-cons (λ b. lane_at lane (a ∷ ps) b.number ≡ lane_of lane b.sight) q qs
    (lane_there lane a ps q.number (All-head (λ k. a.number < k) q.number (map (λ b. b.number) qs) above) ∙ All-head (λ b. lane_at lane ps b.number ≡ lane_of lane b.sight) q qs all)
    (lanes_there lane a ps qs (All-tail (λ k. a.number < k) q.number (map (λ b. b.number) qs) above) (All-tail (λ b. lane_at lane ps b.number ≡ lane_of lane b.sight) q qs all))

lanes_known : (lane : EndpointPair → ℕ) (ps : List Arrival) → Rises (map (λ a. a.number) ps) → All (λ a. lane_at lane ps a.number ≡ lane_of lane a.sight) ps
unfolding Rises
lanes_known lane [] rises = All-nil (λ a. lane_at lane [] a.number ≡ lane_of lane a.sight)
lanes_known lane (a ∷ ps) rises =
    All-cons (λ b. lane_at lane (a ∷ ps) b.number ≡ lane_of lane b.sight) a ps (lane_here lane a ps) (lanes_there lane a ps ps rises.0 (lanes_known lane ps rises.1))

above_here : (n : ℕ) (m : Members) (ms : List Members) (b : Bool) → n < name_of m → All (λ k. n < k) (names_of ms) → All (λ k. n < k) (names_of (cond b (m ∷ ms) ms))
above_here n m ms true lt above = All-cons (λ k. n < k) (name_of m) (names_of ms) lt above
above_here n m ms false lt above = above

module _ (shown : Members → Record) (same : (m : Members) → (shown m).name ≡ name_of m) where
  shown_names : (ms : List Members) → names_in shown_name (map shown ms) ≡ names_of ms
  shown_names [] = refl
  shown_names (m ∷ ms) = ap (λ n. n ∷ names_in shown_name (map shown ms)) (same m) ∙ ap (λ l. name_of m ∷ l) (shown_names ms)

  shown_here : (m : Members) (b : Bool) (rs : List Record) (ms : List Members) → rs ≡ map shown ms → cond b (shown m ∷ rs) rs ≡ map shown (cond b (m ∷ ms) ms)
  shown_here m true rs ms e = ap (λ l. shown m ∷ l) e
  shown_here m false rs ms e = e

  module _ (lane : EndpointPair → ℕ) (of : ℕ → ℕ) (l : ℕ) where
    -- the part of a lane, by the names that are shown
    shown_part : (ms : List Members) → All (λ m. of (name_of m) ≡ lane_of lane m.first.sight) ms → filter (λ r. of r.name == l) (map shown ms) ≡ map shown (part lane l ms)
    shown_part [] all = refl
    shown_part (m ∷ ms) all =
        let own : of (shown m).name ≡ lane_of lane m.first.sight = ap of (same m) ∙ All-head (λ x. of (name_of x) ≡ lane_of lane x.first.sight) m ms all in
        let rest = shown_part ms (All-tail (λ x. of (name_of x) ≡ lane_of lane x.first.sight) m ms all) in
        ap (λ n. cond (n == l) (shown m ∷ filter (λ r. of r.name == l) (map shown ms)) (filter (λ r. of r.name == l) (map shown ms))) own
        ∙ shown_here m (lane_of lane m.first.sight == l) (filter (λ r. of r.name == l) (map shown ms)) (part lane l ms) rest

    own_here : (m : Members) (ms : List Members) (b : Bool) → (b ≡ true → of (shown m).name ≡ l) → All (λ r. of r.name ≡ l) (map shown ms) → All (λ r. of r.name ≡ l) (map shown (cond b (m ∷ ms) ms))
    own_here m ms true own all = All-cons (λ r. of r.name ≡ l) (shown m) (map shown ms) (own refl) all
    own_here m ms false own all = all

    part_own : (ms : List Members) → All (λ m. of (name_of m) ≡ lane_of lane m.first.sight) ms → All (λ r. of r.name ≡ l) (map shown (part lane l ms))
    part_own [] all = All-nil (λ r. of r.name ≡ l)
    part_own (m ∷ ms) all =
        own_here m (part lane l ms) (lane_of lane m.first.sight == l)
        (λ is. ap of (same m) ∙ All-head (λ x. of (name_of x) ≡ lane_of lane x.first.sight) m ms all ∙ eqb-true (lane_of lane m.first.sight) l is)
        (part_own ms (All-tail (λ x. of (name_of x) ≡ lane_of lane x.first.sight) m ms all))

    above_part : (n : ℕ) (ms : List Members) → All (λ k. n < k) (names_of ms) → All (λ k. n < k) (names_of (part lane l ms))
    above_part n [] above = All-nil (λ k. n < k)
    above_part n (m ∷ ms) above =
        above_here n m (part lane l ms) (lane_of lane m.first.sight == l) (All-head (λ k. n < k) (name_of m) (names_of ms) above)
        (above_part n ms (All-tail (λ k. n < k) (name_of m) (names_of ms) above))

    rises_here : (m : Members) (ms : List Members) (b : Bool) → All (λ k. name_of m < k) (names_of ms) → Rises (names_of ms) → Rises (names_of (cond b (m ∷ ms) ms))
    unfolding Rises
    rises_here m ms true above rises = (above, rises)
    rises_here m ms false above rises = rises

    rises_part : (ms : List Members) → Rises (names_of ms) → Rises (names_of (part lane l ms))
    unfolding Rises
    rises_part [] rises = tt
    rises_part (m ∷ ms) rises = rises_here m (part lane l ms) (lane_of lane m.first.sight == l) (above_part (name_of m) ms rises.0) (rises_part ms rises.1)

    part_rises : (ms : List Members) → Rises (names_of ms) → Rises (names_in shown_name (map shown (part lane l ms)))
    part_rises ms rises = subst Rises (sym (shown_names (part lane l ms))) (rises_part ms rises)

  module _ (endings : Endings) (lane : EndpointPair → ℕ) (packets : List Arrival) (vs : List ℕ) (numbered : Rises (map (λ a. a.number) packets))
      (lists : List (List Record)) (lists_are : (l : ℕ) → list_at lists l ≡ map shown (part lane l (records_under endings vs packets))) where
    abbrev all_records : List Members
    all_records = records_under endings vs packets

    known : All (λ m. lane_at lane packets (name_of m) ≡ lane_of lane m.first.sight) all_records
    known = all_of_firsts (λ a. lane_at lane packets a.number ≡ lane_of lane a.sight) endings vs packets (lanes_known lane packets numbered)

    rise : Rises (names_of all_records)
    rise = names_rise endings (named endings vs packets) (subst Rises (sym (named_numbers (named endings vs packets) ∙ ap (map (λ a. a.number)) (named_packets endings vs [] packets))) numbered)

    pub lists_of_lanes : AreOfLanes shown_name (lane_at lane packets) lists
    lists_of_lanes = record {
      own = λ l. subst (All (λ r. lane_at lane packets r.name ≡ l)) (sym (lists_are l)) (part_own lane (lane_at lane packets) l all_records known);
      rise = λ l. subst (λ x. Rises (names_in shown_name x)) (sym (lists_are l)) (part_rises lane (lane_at lane packets) l all_records rise);
    }

    pub merged_is : (merged : List Record) → IsMerge shown_name (lane_at lane packets) lists merged → merged ≡ map shown all_records
    merged_is merged is =
        same_parts (λ r. r.name) (λ r. lane_at lane packets r.name) merged (map shown all_records) is.rises (subst Rises (sym (shown_names all_records)) rise)
        (λ l. is.parts l ∙ lists_are l ∙ sym (shown_part lane (lane_at lane packets) l all_records known))
