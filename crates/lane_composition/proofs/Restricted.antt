-- The records of some lanes' packets alone.
use Rattle.std.proofs.Common.{◌≡◌, ℕ, Bool, true, false, cond, List, [], ◌∷◌, refl, sym, ap, ◌∙◌, ⊎_elim}
use Rattle.std.specs.Prelude.{if◌then◌else◌, filter}
use Rattle.std.proofs.lemmas.Bool.{and_parts, cases_Bool}
use Rattle.app_api.specs.declared.reaction.Verdict.{Verdict}
use Rattle.lane_core.specs.Sight.{Sight, Tcp, Other, Arrival, key_of_segment}
use Rattle.flow_table.specs.Key.{EndpointPair}
use Rattle.flow_table.proofs.Keys.{same_key-equal}
use Rattle.lane_core.specs.Records.{VersionedPacket, is_between}
use Rattle.lane_composition.specs.Members.{Endings, Members, packets_of, joined_by, takes, ended_before, found, placed, added, records_from}
use Rattle.run_outcome.specs.Lanes.{lane_of}
use Rattle.lane_composition.specs.Judged.{verdict_among, verdict_of, judged_from}
use Rattle.lane_composition.proofs.Silence.{untaken_stays, of_before}

between_lane : (lane : EndpointPair → ℕ) (first : Sight) (own : EndpointPair) → is_between own first ≡ true → lane_of lane first ≡ lane own
unfolding is_between
between_lane lane (Tcp opener) own same = ap lane (same_key-equal (key_of_segment opener) own same)
between_lane lane (Other class) own same = absurd (cc)

-- a record and a packet that it takes are of one lane
pub taken_lane : (endings : Endings) (lane : EndpointPair → ℕ) (sight : Sight) (m : Members) → takes endings sight m ≡ true → lane_of lane m.first.sight ≡ lane_of lane sight
taken_lane endings lane (Tcp segment) m taken = between_lane lane m.first.sight (key_of_segment segment) (and_parts _ _ (and_parts _ _ taken).0).1
taken_lane endings lane (Other class) m taken = absurd (cc)

module _ (endings : Endings) (lane : EndpointPair → ℕ) (lanes : ℕ → Bool) where
  -- whether a packet is of these lanes, and whether a record is by its first packet
  abbrev pub packet_in : VersionedPacket → Bool
  packet_in p = lanes (lane_of lane p.arrival.sight)

  abbrev pub record_in : Members → Bool
  record_in m = lanes (lane_of lane m.first.sight)

  taken_in : (p : VersionedPacket) (m : Members) → takes endings p.arrival.sight m ≡ true → record_in m ≡ packet_in p
  taken_in p m taken = ap lanes (taken_lane endings lane p.arrival.sight m taken)

  outside_here : (p : VersionedPacket) (m : Members) (ms after : List Members) (b : Bool) → takes endings p.arrival.sight m ≡ b → packet_in p ≡ false → filter record_in after ≡ filter record_in ms
      → filter record_in (if b then joined_by p.arrival m ∷ ms else m ∷ after) ≡ filter record_in (m ∷ ms)
  outside_here p m ms after true taken out rest = let fails : record_in m ≡ false = taken_in p m taken ∙ out in rw fails refl
  outside_here p m ms after false taken out rest = ap (λ l. cond (record_in m) (m ∷ l) l) rest

  -- a packet of another lane is placed in no record of these
  outside : (p : VersionedPacket) (ms : List Members) → packet_in p ≡ false → filter record_in (placed endings p ms) ≡ filter record_in ms
  unfolding placed
  outside p [] out = rw out refl
  outside p (m ∷ ms) out = outside_here p m ms (placed endings p ms) (takes endings p.arrival.sight m) refl out (outside p ms out)

  inside_there : (p : VersionedPacket) (m : Members) (ms after : List Members) (c : Bool) → record_in m ≡ c → takes endings p.arrival.sight m ≡ false
      → filter record_in after ≡ placed endings p (filter record_in ms)
      → cond c (m ∷ filter record_in after) (filter record_in after) ≡ placed endings p (cond c (m ∷ filter record_in ms) (filter record_in ms))
  unfolding placed
  inside_there p m ms after true is untaken rest = rw untaken (ap (λ l. m ∷ l) rest)
  inside_there p m ms after false is untaken rest = rest

  inside_here : (p : VersionedPacket) (m : Members) (ms after : List Members) (b : Bool) → takes endings p.arrival.sight m ≡ b → packet_in p ≡ true
      → filter record_in after ≡ placed endings p (filter record_in ms)
      → filter record_in (if b then joined_by p.arrival m ∷ ms else m ∷ after) ≡ placed endings p (filter record_in (m ∷ ms))
  unfolding placed
  inside_here p m ms after true taken has rest =
      let passes : record_in m ≡ true = taken_in p m taken ∙ has in rw (passes, taken) refl
  inside_here p m ms after false taken has rest = inside_there p m ms after (record_in m) refl taken rest

  -- a packet of these lanes is placed in their records as if there were no others
  inside : (p : VersionedPacket) (ms : List Members) → packet_in p ≡ true → filter record_in (placed endings p ms) ≡ placed endings p (filter record_in ms)
  unfolding placed
  inside p [] has = rw has refl
  inside p (m ∷ ms) has = inside_here p m ms (placed endings p ms) (takes endings p.arrival.sight m) refl has (inside p ms has)

  -- silence leaves a record in its lanes
  lanes_stay : (a : Arrival) (m : Members) → record_in (ended_before endings a m) ≡ record_in m
  lanes_stay a m = ap (λ first. lanes (lane_of lane first.sight)) (of_before endings (λ x. x.first) (λ x. refl) a m)

  found_here : (a : Arrival) (m : Members) (ms : List Members) (c : Bool) → filter record_in (found endings a ms) ≡ found endings a (filter record_in ms)
      → cond c (ended_before endings a m ∷ filter record_in (found endings a ms)) (filter record_in (found endings a ms)) ≡ found endings a (cond c (m ∷ filter record_in ms) (filter record_in ms))
  found_here a m ms true rest = ap (λ l. ended_before endings a m ∷ l) rest
  found_here a m ms false rest = rest

  -- so what a packet finds of these lanes is what it finds where there are no others
  pub found_in : (a : Arrival) (ms : List Members) → filter record_in (found endings a ms) ≡ found endings a (filter record_in ms)
  found_in a [] = refl
  found_in a (m ∷ ms) =
      ap (λ b. cond b (ended_before endings a m ∷ filter record_in (found endings a ms)) (filter record_in (found endings a ms))) (lanes_stay a m)
      ∙ found_here a m ms (record_in m) (found_in a ms)

  other_stays : (a : Arrival) (m : Members) → lanes (lane_of lane a.sight) ≡ false → record_in m ≡ true → ended_before endings a m ≡ m
  other_stays a m out is = ⊎_elim
      (λ taken. absurd (let same = ap lanes (taken_lane endings lane a.sight m taken) in cc))
      (λ untaken. untaken_stays endings a m untaken)
      (cases_Bool (takes endings a.sight m))

  others_here : (a : Arrival) (m : Members) (ms : List Members) (c : Bool) → record_in m ≡ c → lanes (lane_of lane a.sight) ≡ false → found endings a (filter record_in ms) ≡ filter record_in ms
      → found endings a (cond c (m ∷ filter record_in ms) (filter record_in ms)) ≡ cond c (m ∷ filter record_in ms) (filter record_in ms)
  others_here a m ms true is out rest = ap (λ x. x ∷ found endings a (filter record_in ms)) (other_stays a m out is) ∙ ap (λ l. m ∷ l) rest
  others_here a m ms false is out rest = rest

  -- and a packet of another lane ends none of these
  others_stay : (a : Arrival) (ms : List Members) → lanes (lane_of lane a.sight) ≡ false → found endings a (filter record_in ms) ≡ filter record_in ms
  others_stay a [] out = refl
  others_stay a (m ∷ ms) out = others_here a m ms (record_in m) refl out (others_stay a ms out)

  -- a packet of another lane changes no record of these
  added_outside : (p : VersionedPacket) (ms : List Members) → packet_in p ≡ false → filter record_in (added endings p ms) ≡ filter record_in ms
  added_outside p ms out = outside p (found endings p.arrival ms) out ∙ found_in p.arrival ms ∙ others_stay p.arrival ms out

  -- a packet of these lanes changes their records as if there were no others
  added_inside : (p : VersionedPacket) (ms : List Members) → packet_in p ≡ true → filter record_in (added endings p ms) ≡ added endings p (filter record_in ms)
  added_inside p ms has = inside p (found endings p.arrival ms) has ∙ ap (placed endings p) (found_in p.arrival ms)

  restricted_here : (p : VersionedPacket) (ps : List VersionedPacket) (ms : List Members) (b : Bool) → packet_in p ≡ b
      → records_from endings (filter record_in (added endings p ms)) (filter packet_in ps) ≡ filter record_in (records_from endings (added endings p ms) ps)
      → records_from endings (filter record_in ms) (cond b (p ∷ filter packet_in ps) (filter packet_in ps)) ≡ filter record_in (records_from endings (added endings p ms) ps)
  unfolding records_from
  restricted_here p ps ms true is rest = ap (λ l. records_from endings l (filter packet_in ps)) (sym (added_inside p ms is)) ∙ rest
  restricted_here p ps ms false is rest = ap (λ l. records_from endings l (filter packet_in ps)) (sym (added_outside p ms is)) ∙ rest

  pub restricted : (ms : List Members) (ps : List VersionedPacket) → records_from endings (filter record_in ms) (filter packet_in ps) ≡ filter record_in (records_from endings ms ps)
  unfolding records_from
  restricted ms [] = refl
  restricted ms (p ∷ ps) = restricted_here p ps ms (packet_in p) refl (restricted (added endings p ms) ps)

  -- the same of verdicts
  module _ (judge : ℕ → List Arrival → Arrival → Verdict) where
    abbrev judged_in : Arrival × Verdict → Bool
    judged_in j = lanes (lane_of lane j.0.sight)

    verdict_skips : (p : VersionedPacket) (m : Members) (ms : List Members) (c : Bool) → record_in m ≡ c → takes endings p.arrival.sight m ≡ false
        → verdict_among endings judge p (cond c (m ∷ filter record_in ms) (filter record_in ms)) ≡ verdict_among endings judge p (filter record_in ms)
    unfolding verdict_among
    verdict_skips p m ms true is untaken = rw untaken refl
    verdict_skips p m ms false is untaken = refl

    verdict_here : (p : VersionedPacket) (m : Members) (ms : List Members) (b : Bool) → takes endings p.arrival.sight m ≡ b → packet_in p ≡ true
        → verdict_among endings judge p (filter record_in ms) ≡ verdict_among endings judge p ms
        → verdict_among endings judge p (filter record_in (m ∷ ms)) ≡ (if b then judge m.version (packets_of m) p.arrival else verdict_among endings judge p ms)
    unfolding verdict_among
    verdict_here p m ms true taken has rest = let passes : record_in m ≡ true = taken_in p m taken ∙ has in rw (passes, taken) refl
    verdict_here p m ms false taken has rest = verdict_skips p m ms (record_in m) refl taken ∙ rest

    verdict_there : (p : VersionedPacket) (ms : List Members) → packet_in p ≡ true → verdict_among endings judge p (filter record_in ms) ≡ verdict_among endings judge p ms
    unfolding verdict_among
    verdict_there p [] has = refl
    verdict_there p (m ∷ ms) has = verdict_here p m ms (takes endings p.arrival.sight m) refl has (verdict_there p ms has)

    same_verdict : (p : VersionedPacket) (ms : List Members) → packet_in p ≡ true → verdict_of endings judge p (filter record_in ms) ≡ verdict_of endings judge p ms
    same_verdict p ms has = ap (verdict_among endings judge p) (sym (found_in p.arrival ms)) ∙ verdict_there p (found endings p.arrival ms) has

    judged_here : (p : VersionedPacket) (ps : List VersionedPacket) (ms : List Members) (b : Bool) → packet_in p ≡ b
        → judged_from endings judge (filter record_in (added endings p ms)) (filter packet_in ps) ≡ filter judged_in (judged_from endings judge (added endings p ms) ps)
        → judged_from endings judge (filter record_in ms) (cond b (p ∷ filter packet_in ps) (filter packet_in ps))
        ≡ cond b ((p.arrival, verdict_of endings judge p ms) ∷ filter judged_in (judged_from endings judge (added endings p ms) ps))
        (filter judged_in (judged_from endings judge (added endings p ms) ps))
    unfolding judged_from
    judged_here p ps ms true is rest =
        ap (λ v. (p.arrival, v) ∷ judged_from endings judge (added endings p (filter record_in ms)) (filter packet_in ps)) (same_verdict p ms is)
        ∙ ap (λ l. (p.arrival, verdict_of endings judge p ms) ∷ judged_from endings judge l (filter packet_in ps)) (sym (added_inside p ms is))
        ∙ ap (λ l. (p.arrival, verdict_of endings judge p ms) ∷ l) rest
    judged_here p ps ms false is rest = ap (λ l. judged_from endings judge l (filter packet_in ps)) (sym (added_outside p ms is)) ∙ rest

    pub judged_restricted : (ms : List Members) (ps : List VersionedPacket) → judged_from endings judge (filter record_in ms) (filter packet_in ps) ≡ filter judged_in (judged_from endings judge ms ps)
    unfolding judged_from
    judged_restricted ms [] = refl
    judged_restricted ms (p ∷ ps) = judged_here p ps ms (packet_in p) refl (judged_restricted (added endings p ms) ps)
