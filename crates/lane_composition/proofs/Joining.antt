-- The packets of all lanes, each with the version that its lane has for it, in the order of the capture.
use Rattle.std.proofs.Common.{◌≡◌, ℕ, Bool, true, false, cond, List, [], ◌∷◌, refl, sym, ap, ◌∙◌, subst, drop, ⊎_elim}
use Rattle.std.specs.Prelude.{if◌then◌else◌, ◌==◌, filter}
use Rattle.std.proofs.lemmas.Bool.{cases_eq, eq-eqb, ne_eqb}
use Rattle.flow_table.specs.Key.{EndpointPair}
use Rattle.lane_core.specs.Sight.{Arrival}
use Rattle.lane_core.specs.Records.{VersionedPacket, versioned}
use Rattle.lane_composition.specs.Lanes.{share}
use Rattle.run_outcome.specs.Lanes.{lane_of}
use Rattle.lane_composition.specs.Allowed.{arrivals_of}

-- the first of a list that isn't empty
first_is : (xs : List VersionedPacket) (a : Arrival) (rest : List Arrival) → arrivals_of xs ≡ a ∷ rest → (p : VersionedPacket) × (xs ≡ p ∷ drop 1 xs) × (p.arrival ≡ a)
    × (arrivals_of (drop 1 xs) ≡ rest)
first_is [] a rest e = absurd (cc)
first_is (x ∷ xs) a rest e = (x, refl, cc, cc)

none_is : (xs : List VersionedPacket) → arrivals_of xs ≡ [] → xs ≡ []
none_is [] e = refl
none_is (x ∷ xs) e = absurd (cc)

module _ (lane : EndpointPair → ℕ) where
  abbrev pub of_lane : ℕ → VersionedPacket → Bool
  of_lane l p = lane_of lane p.arrival.sight == l

  -- without the first packet of lane l
  abbrev others_of : (ℕ → List VersionedPacket) → ℕ → ℕ → List VersionedPacket
  others_of parts l k = if k == l then drop 1 (parts k) else parts k

  pub record IsJoined (ps : List Arrival) (parts : ℕ → List VersionedPacket) : Type 0 where
    pub stamped : List VersionedPacket
    pub packets : arrivals_of stamped ≡ ps
    pub of_lanes : (l : ℕ) → filter (of_lane l) stamped ≡ parts l

  module _ (a : Arrival) (ps : List Arrival) (parts : ℕ → List VersionedPacket) (are : (l : ℕ) → arrivals_of (parts l) ≡ share lane l (a ∷ ps)) where
    here_is : arrivals_of (parts (lane_of lane a.sight)) ≡ a ∷ share lane (lane_of lane a.sight) ps
    here_is = let own = eq-eqb (lane_of lane a.sight) (lane_of lane a.sight) refl in are (lane_of lane a.sight)
        ∙ ap (λ b. cond b (a ∷ share lane (lane_of lane a.sight) ps) (share lane (lane_of lane a.sight) ps)) own

    others_here : (k : ℕ) → k ≡ lane_of lane a.sight → arrivals_of (others_of parts (lane_of lane a.sight) k) ≡ share lane k ps
    others_here k same =
        let is = eq-eqb k (lane_of lane a.sight) same in
        ap (λ b. arrivals_of (if b then drop 1 (parts k) else parts k)) is
        ∙ subst (λ l. arrivals_of (drop 1 (parts l)) ≡ share lane l ps) (sym same) (first_is (parts (lane_of lane a.sight)) a (share lane (lane_of lane a.sight) ps) here_is).3

    others_there : (k : ℕ) → (k ≡ lane_of lane a.sight → ⊥) → arrivals_of (others_of parts (lane_of lane a.sight) k) ≡ share lane k ps
    others_there k other =
        let isnt = ne_eqb k (lane_of lane a.sight) other in
        let skipped = ne_eqb (lane_of lane a.sight) k (λ e. other (sym e)) in
        ap (λ b. arrivals_of (if b then drop 1 (parts k) else parts k)) isnt
        ∙ are k ∙ ap (λ b. cond b (a ∷ share lane k ps) (share lane k ps)) skipped

    others_are : (k : ℕ) → arrivals_of (others_of parts (lane_of lane a.sight) k) ≡ share lane k ps
    others_are k = ⊎_elim (others_here k) (others_there k) (cases_eq k (lane_of lane a.sight))

    module _ (j : IsJoined ps (others_of parts (lane_of lane a.sight))) where
      first : (p : VersionedPacket) × (parts (lane_of lane a.sight) ≡ p ∷ drop 1 (parts (lane_of lane a.sight))) × (p.arrival ≡ a)
          × (arrivals_of (drop 1 (parts (lane_of lane a.sight))) ≡ share lane (lane_of lane a.sight) ps)
      first = first_is (parts (lane_of lane a.sight)) a (share lane (lane_of lane a.sight) ps) here_is

      own_lane : lane_of lane first.0.arrival.sight ≡ lane_of lane a.sight
      own_lane = ap (λ x. lane_of lane x.sight) first.2

      joined_here : (k : ℕ) → k ≡ lane_of lane a.sight → filter (of_lane k) (first.0 ∷ j.stamped) ≡ parts k
      joined_here k same =
          let passes : (lane_of lane first.0.arrival.sight == k) ≡ true = eq-eqb (lane_of lane first.0.arrival.sight) k (own_lane ∙ sym same) in
          let is = eq-eqb k (lane_of lane a.sight) same in
          ap (λ b. cond b (first.0 ∷ filter (of_lane k) j.stamped) (filter (of_lane k) j.stamped)) passes
          ∙ ap (λ l. first.0 ∷ l) (j.of_lanes k ∙ ap (λ b. if b then drop 1 (parts k) else parts k) is)
          ∙ subst (λ l. first.0 ∷ drop 1 (parts l) ≡ parts l) (sym same) (sym first.1)

      joined_there : (k : ℕ) → (k ≡ lane_of lane a.sight → ⊥) → filter (of_lane k) (first.0 ∷ j.stamped) ≡ parts k
      joined_there k other =
          let fails : (lane_of lane first.0.arrival.sight == k) ≡ false = ne_eqb (lane_of lane first.0.arrival.sight) k (λ e. other (sym (sym own_lane ∙ e))) in
          let isnt = ne_eqb k (lane_of lane a.sight) other in
          ap (λ b. cond b (first.0 ∷ filter (of_lane k) j.stamped) (filter (of_lane k) j.stamped)) fails
          ∙ j.of_lanes k ∙ ap (λ b. if b then drop 1 (parts k) else parts k) isnt

      joined_more : IsJoined (a ∷ ps) parts
      joined_more = record {
        stamped = first.0 ∷ j.stamped;
        packets = ap (λ x. x ∷ arrivals_of j.stamped) first.2 ∙ ap (λ l. a ∷ l) j.packets;
        of_lanes = λ k. ⊎_elim (joined_here k) (joined_there k) (cases_eq k (lane_of lane a.sight));
      }

  -- whatever versions the lanes have for their shares, all packets have them together
  pub lanes_join : (ps : List Arrival) (parts : ℕ → List VersionedPacket) → ((l : ℕ) → arrivals_of (parts l) ≡ share lane l ps) → IsJoined ps parts
  lanes_join [] parts are = record { stamped = []; packets = refl; of_lanes = λ l. sym (none_is (parts l) (are l)) }
  lanes_join (a ∷ ps) parts are = joined_more a ps parts are (lanes_join ps (others_of parts (lane_of lane a.sight)) (others_are a ps parts are))

  versioned_here : (u : ℕ → ℕ) (p : Arrival) (b : Bool) (xs : List Arrival) (ys : List VersionedPacket) → versioned u xs ≡ ys
      → versioned u (cond b (p ∷ xs) xs) ≡ cond b (record { version = u p.number; arrival = p } ∷ ys) ys
  versioned_here u p true xs ys e = ap (λ z. record { version = u p.number; arrival = p } ∷ z) e
  versioned_here u p false xs ys e = e

  -- a share, each packet with its version
  pub versioned_share : (l : ℕ) (u : ℕ → ℕ) (ps : List Arrival) → versioned u (share lane l ps) ≡ filter (of_lane l) (versioned u ps)
  versioned_share l u [] = refl
  versioned_share l u (p ∷ ps) = versioned_here u p (lane_of lane p.sight == l) (share lane l ps) (filter (of_lane l) (versioned u ps)) (versioned_share l u ps)
