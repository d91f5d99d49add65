-- The records of some keys' packets alone.
use Rattle.std.proofs.Common.{◌≡◌, ℕ, Bool, true, false, cond, Option, List, [], ◌∷◌, map, refl, sym, ap, ◌∙◌}
use Rattle.std.specs.Prelude.{if◌then◌else◌, ◌&&◌, filter}
use Rattle.lane_core.specs.Sight.{Sight, Tcp, Other, Moment, key_of_segment}
use Rattle.flow_table.specs.Key.{EndpointPair}
use Rattle.flow_table.proofs.Keys.{same_key-equal}
use Rattle.app_api.specs.App.{Meaning}
use Rattle.forest_versions.specs.State.{ControlState}
use Rattle.lane_core.specs.Records.{VersionedPacket, RecordSoFar, is_between, belongs_to, continued_by, ended_before, ended_at, placed, added, records_from}
use Rattle.lane_core.specs.Laws.{has_key}
use Rattle.lane_core.proofs.Ended.{Ends, ends_before, ends_at, either, left_before}

second_of : (a b c : Bool) → (a && b && c) ≡ true → b ≡ true
second_of true true c all = refl
second_of true false c all = absurd (cc)
second_of false b c all = absurd (cc)

module _ (app : Meaning) (control_at : ℕ → ControlState) (keys : EndpointPair → Bool) (others : Bool) where
  -- whether a packet is in the set, and whether a record is by its first packet
  abbrev packet_in : VersionedPacket → Bool
  packet_in s = has_key keys others s.arrival.sight

  abbrev record_in : RecordSoFar → Bool
  record_in past = has_key keys others past.first.sight

  between_key : (first : Sight) (own : EndpointPair) → is_between own first ≡ true → has_key keys others first ≡ keys own
  unfolding is_between
  between_key (Tcp opener) own same = ap keys (same_key-equal (key_of_segment opener) own same)
  between_key (Other class) own same = absurd (cc)

  -- a record and a packet that it takes have one key
  taken_key : (sight : Sight) (past : RecordSoFar) → belongs_to sight past ≡ true → record_in past ≡ has_key keys others sight
  taken_key (Tcp segment) past taken = between_key past.first.sight (key_of_segment segment) (second_of _ _ _ taken)
  taken_key (Other class) past taken = absurd (cc)

  outside_here : (s : VersionedPacket) (past : RecordSoFar) (pasts after : List RecordSoFar) (b : Bool) → belongs_to s.arrival.sight past ≡ b
      → packet_in s ≡ false → filter record_in after ≡ filter record_in pasts
      → filter record_in (if b then continued_by app control_at s.arrival past ∷ pasts else past ∷ after) ≡ filter record_in (past ∷ pasts)
  outside_here s past pasts after true taken out rest = let fails : record_in past ≡ false = taken_key s.arrival.sight past taken ∙ out in rw fails refl
  outside_here s past pasts after false taken out rest = ap (λ l. cond (record_in past) (past ∷ l) l) rest

  -- a packet that isn't in the set changes no record of it
  outside : (s : VersionedPacket) (pasts : List RecordSoFar) → packet_in s ≡ false → filter record_in (placed app control_at s pasts) ≡ filter record_in pasts
  unfolding placed
  outside s [] out = rw out refl
  outside s (past ∷ pasts) out = outside_here s past pasts (placed app control_at s pasts) (belongs_to s.arrival.sight past) refl out (outside s pasts out)

  inside_there : (s : VersionedPacket) (past : RecordSoFar) (pasts after : List RecordSoFar) (c : Bool) → record_in past ≡ c
      → belongs_to s.arrival.sight past ≡ false → filter record_in after ≡ placed app control_at s (filter record_in pasts)
      → cond c (past ∷ filter record_in after) (filter record_in after) ≡ placed app control_at s (cond c (past ∷ filter record_in pasts) (filter record_in pasts))
  unfolding placed
  inside_there s past pasts after true is untaken rest = rw untaken (ap (λ l. past ∷ l) rest)
  inside_there s past pasts after false is untaken rest = rest

  inside_here : (s : VersionedPacket) (past : RecordSoFar) (pasts after : List RecordSoFar) (b : Bool) → belongs_to s.arrival.sight past ≡ b
      → packet_in s ≡ true → filter record_in after ≡ placed app control_at s (filter record_in pasts)
      → filter record_in (if b then continued_by app control_at s.arrival past ∷ pasts else past ∷ after) ≡ placed app control_at s (filter record_in (past ∷ pasts))
  unfolding placed
  inside_here s past pasts after true taken has rest =
      let passes : record_in past ≡ true = taken_key s.arrival.sight past taken ∙ has in rw (passes, taken) refl
  inside_here s past pasts after false taken has rest = inside_there s past pasts after (record_in past) refl taken rest

  -- a packet of the set changes the records of it as if there were no others
  inside : (s : VersionedPacket) (pasts : List RecordSoFar) → packet_in s ≡ true → filter record_in (placed app control_at s pasts) ≡ placed app control_at s (filter record_in pasts)
  unfolding placed
  inside s [] has = rw has refl
  inside s (past ∷ pasts) has = inside_here s past pasts (placed app control_at s pasts) (belongs_to s.arrival.sight past) refl has (inside s pasts has)

  -- ---- records that end

  filtered_here : (past now : RecordSoFar) (pasts after : List RecordSoFar) (b : Bool) → record_in past ≡ b → record_in now ≡ b → filter record_in after ≡ pasts
      → cond (record_in now) (now ∷ filter record_in after) (filter record_in after) ≡ cond b (now ∷ pasts) pasts
  filtered_here past now pasts after true was is rest = rw is (ap (λ l. now ∷ l) rest)
  filtered_here past now pasts after false was is rest = rw is rest

  chosen : (step : RecordSoFar → RecordSoFar) (past : RecordSoFar) (pasts : List RecordSoFar) (b : Bool) → cond b (step past ∷ map step pasts) (map step pasts) ≡ map step (cond b (past ∷ pasts) pasts)
  chosen step past pasts true = refl
  chosen step past pasts false = refl

  -- a record that ends has its first packet still
  pub ended_in : (step : RecordSoFar → RecordSoFar) → Ends app control_at step → (pasts : List RecordSoFar) → filter record_in (map step pasts) ≡ map step (filter record_in pasts)
  ended_in step ends [] = refl
  ended_in step ends (past ∷ pasts) =
      filtered_here past (step past) (map step (filter record_in pasts)) (map step pasts) (record_in past) refl
      (either app control_at (λ q. record_in q ≡ record_in past) step ends past refl refl) (ended_in step ends pasts)
      ∙ chosen step past (filter record_in pasts) (record_in past)

  stays_here : (s : VersionedPacket) (past : RecordSoFar) (b : Bool) → record_in past ≡ true → belongs_to s.arrival.sight past ≡ b → packet_in s ≡ false → b ≡ false
  stays_here s past true is taken out = absurd (let e = sym is ∙ taken_key s.arrival.sight past taken ∙ out in cc)
  stays_here s past false is taken out = refl

  unended_here : (s : VersionedPacket) (past : RecordSoFar) (pasts : List RecordSoFar) (b : Bool) → record_in past ≡ b → packet_in s ≡ false
      → map (ended_before app control_at s) pasts ≡ pasts → map (ended_before app control_at s) (cond b (past ∷ pasts) pasts) ≡ cond b (past ∷ pasts) pasts
  unended_here s past pasts true is out rest =
      ap (λ q. q ∷ map (ended_before app control_at s) pasts) (left_before app control_at s past (stays_here s past (belongs_to s.arrival.sight past) is refl out))
      ∙ ap (λ l. past ∷ l) rest
  unended_here s past pasts false is out rest = rest

  -- a packet that isn't in the set ends no record of it
  unended_outside : (s : VersionedPacket) (pasts : List RecordSoFar) → packet_in s ≡ false → map (ended_before app control_at s) (filter record_in pasts) ≡ filter record_in pasts
  unended_outside s [] out = refl
  unended_outside s (past ∷ pasts) out = unended_here s past (filter record_in pasts) (record_in past) refl out (unended_outside s pasts out)

  added_outside : (s : VersionedPacket) (pasts : List RecordSoFar) → packet_in s ≡ false → filter record_in (added app control_at s pasts) ≡ filter record_in pasts
  added_outside s pasts out =
      outside s (map (ended_before app control_at s) pasts) out
      ∙ ended_in (ended_before app control_at s) (ends_before app control_at s) pasts ∙ unended_outside s pasts out

  added_inside : (s : VersionedPacket) (pasts : List RecordSoFar) → packet_in s ≡ true → filter record_in (added app control_at s pasts) ≡ added app control_at s (filter record_in pasts)
  added_inside s pasts has =
      inside s (map (ended_before app control_at s) pasts) has
      ∙ ap (placed app control_at s) (ended_in (ended_before app control_at s) (ends_before app control_at s) pasts)

  restricted_here : (s : VersionedPacket) (ss : List VersionedPacket) (pasts : List RecordSoFar) (b : Bool) → packet_in s ≡ b
      → records_from app control_at (filter record_in (added app control_at s pasts)) (filter packet_in ss) ≡ filter record_in (records_from app control_at (added app control_at s pasts) ss)
      → records_from app control_at (filter record_in pasts) (cond b (s ∷ filter packet_in ss) (filter packet_in ss)) ≡ filter record_in (records_from app control_at (added app control_at s pasts) ss)
  unfolding records_from
  restricted_here s ss pasts true is rest = ap (λ l. records_from app control_at l (filter packet_in ss)) (sym (added_inside s pasts is)) ∙ rest
  restricted_here s ss pasts false is rest = ap (λ l. records_from app control_at l (filter packet_in ss)) (sym (added_outside s pasts is)) ∙ rest

  pub restricted : (pasts : List RecordSoFar) (ss : List VersionedPacket)
      → records_from app control_at (filter record_in pasts) (filter packet_in ss) ≡ filter record_in (records_from app control_at pasts ss)
  unfolding records_from
  restricted pasts [] = refl
  restricted pasts (s ∷ ss) = restricted_here s ss pasts (packet_in s) refl (restricted (added app control_at s pasts) ss)

  -- the same at the end
  pub restricted_at : (last : Option Moment) (ss : List VersionedPacket)
      → map (ended_at app control_at last) (records_from app control_at [] (filter packet_in ss)) ≡ filter record_in (map (ended_at app control_at last) (records_from app control_at [] ss))
  restricted_at last ss =
      ap (map (ended_at app control_at last)) (restricted [] ss)
      ∙ sym (ended_in (ended_at app control_at last) (ends_at app control_at last) (records_from app control_at [] ss))
