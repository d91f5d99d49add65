-- Counts of records: by lanes, and with more packets.
use Rattle.std.proofs.Common.{◌≡◌, ◌<◌, ◌≤◌, ◌+◌, ℕ, zero, suc, Bool, true, false, cond, List, [], ◌∷◌, ◌++◌, refl, ap, arith, ⊎_elim}
use Rattle.std.specs.Prelude.{if◌then◌else◌, ◌&&◌}
use Rattle.std.specs.List.{All}
use Rattle.std.proofs.lemmas.Bool.{cases_eq, eq-eqb, ne_eqb}
use Rattle.std.proofs.lemmas.List.Elements.{All-head, All-tail}
use Rattle.flow_table.specs.Key.{EndpointPair}
use Rattle.lane_core.specs.Sight.{Arrival}
use Rattle.lane_core.specs.Records.{VersionedPacket}
use Rattle.lane_composition.specs.Members.{Endings, Members, packets_of, joined_by, ended_by_silence, takes, found, placed, added, records_from}
use Rattle.lane_composition.specs.Lanes.{part}
use Rattle.run_outcome.specs.Lanes.{lane_of}
use Rattle.lane_composition.specs.Counted.{total, total_of_lanes}

module _ (lane : EndpointPair → ℕ) (count : Members → ℕ) where
  part_here : (l : ℕ) (m : Members) (ms : List Members) → lane_of lane m.first.sight ≡ l → total count (part lane l (m ∷ ms)) ≡ count m + total count (part lane l ms)
  unfolding total
  part_here l m ms own = let is = eq-eqb (lane_of lane m.first.sight) l own in ap (λ b. total count (cond b (m ∷ part lane l ms) (part lane l ms))) is

  part_there : (l : ℕ) (m : Members) (ms : List Members) → (lane_of lane m.first.sight ≡ l → ⊥) → total count (part lane l (m ∷ ms)) ≡ total count (part lane l ms)
  part_there l m ms other = let isnt = ne_eqb (lane_of lane m.first.sight) l other in ap (λ b. total count (cond b (m ∷ part lane l ms) (part lane l ms))) isnt

  -- a record of a lane below, or of none of these lanes
  lanes_below : (n : ℕ) (m : Members) (ms : List Members) → n ≤ lane_of lane m.first.sight → total_of_lanes lane count n (m ∷ ms) ≡ total_of_lanes lane count n ms
  unfolding total_of_lanes
  lanes_below zero m ms le = refl
  lanes_below (suc n) m ms le =
      let before = lanes_below n m ms (omega arith) in
      let last = part_there n m ms (λ e. omega arith) in omega arith

  lanes_with : (n : ℕ) (m : Members) (ms : List Members) → lane_of lane m.first.sight < n → total_of_lanes lane count n (m ∷ ms) ≡ count m + total_of_lanes lane count n ms
  unfolding total_of_lanes
  lanes_with zero m ms lt = absurd (omega arith)
  lanes_with (suc n) m ms lt = ⊎_elim
      (λ own. let before = lanes_below n m ms (omega arith) in let last = part_here n m ms own in omega arith)
      (λ other. let before = lanes_with n m ms (omega arith) in let last = part_there n m ms other in omega arith)
      (cases_eq (lane_of lane m.first.sight) n)

  lanes_of_none : (n : ℕ) → total_of_lanes lane count n [] ≡ 0
  unfolding total_of_lanes total
  lanes_of_none zero = refl
  lanes_of_none (suc n) = let before = lanes_of_none n in omega arith

  pub lanes_add_up : (n : ℕ) (ms : List Members) → All (λ m. lane_of lane m.first.sight < n) ms → total_of_lanes lane count n ms ≡ total count ms
  unfolding total
  lanes_add_up n [] all = lanes_of_none n
  lanes_add_up n (m ∷ ms) all =
      let first = lanes_with n m ms (All-head (λ x. lane_of lane x.first.sight < n) m ms all) in
      let rest = lanes_add_up n ms (All-tail (λ x. lane_of lane x.first.sight < n) m ms all) in omega arith

  pub part_at_most : (l : ℕ) (ms : List Members) → total count (part lane l ms) ≤ total count ms
  unfolding total
  part_at_most l [] = omega arith
  part_at_most l (m ∷ ms) =
      let rest = part_at_most l ms in
      ⊎_elim (λ own. let e = part_here l m ms own in omega arith) (λ other. let e = part_there l m ms other in omega arith) (cases_eq (lane_of lane m.first.sight) l)

module _ (endings : Endings) (count : Members → ℕ) (grows : (a : Arrival) (m : Members) → count m ≤ count (joined_by a m)) (ends : (m : Members) → count m ≤ count (ended_by_silence m)) where
  ends_here : (b : Bool) (m : Members) → count m ≤ count (if b then ended_by_silence m else m)
  ends_here true m = ends m
  ends_here false m = omega arith

  more_found : (a : Arrival) (ms : List Members) → total count ms ≤ total count (found endings a ms)
  unfolding total
  more_found a [] = omega arith
  more_found a (m ∷ ms) =
      let here = ends_here (takes endings a.sight m && endings.is_silent m.version (packets_of m) a.moment) m in
      let rest = more_found a ms in omega arith

  more_here : (p : VersionedPacket) (m : Members) (ms after : List Members) (b : Bool) → total count ms ≤ total count after
      → total count (m ∷ ms) ≤ total count (if b then joined_by p.arrival m ∷ ms else m ∷ after)
  unfolding total
  more_here p m ms after true le = let g = grows p.arrival m in omega arith
  more_here p m ms after false le = omega arith

  more_placed : (p : VersionedPacket) (ms : List Members) → total count ms ≤ total count (placed endings p ms)
  unfolding placed total
  more_placed p [] = omega arith
  more_placed p (m ∷ ms) = more_here p m ms (placed endings p ms) (takes endings p.arrival.sight m) (more_placed p ms)

  more_added : (p : VersionedPacket) (ms : List Members) → total count ms ≤ total count (added endings p ms)
  more_added p ms = let one = more_found p.arrival ms in let two = more_placed p (found endings p.arrival ms) in omega arith

  pub more_from : (ms : List Members) (ps : List VersionedPacket) → total count ms ≤ total count (records_from endings ms ps)
  unfolding records_from
  more_from ms [] = omega arith
  more_from ms (p ∷ ps) = let step = more_added p ms in let rest = more_from (added endings p ms) ps in omega arith

  pub more_packets : (ms : List Members) (ps more : List VersionedPacket) → total count (records_from endings ms ps) ≤ total count (records_from endings ms (ps ++ more))
  unfolding records_from
  more_packets ms [] more = more_from ms more
  more_packets ms (p ∷ ps) more = more_packets (added endings p ms) ps more
