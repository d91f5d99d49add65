-- Not of the headline. Which lists of versions are allowed: each record's version lies between the floor and the ceiling of its first packet, and
-- versions never fall along the records of one lane. Floor and ceiling are any functions of a packet's number.
use Rattle.std.specs.Prelude.{◌≡◌, ◌≤◌, ℕ, List, length, map}
use Rattle.std.specs.List.{All}
use Rattle.flow_table.specs.Key.{EndpointPair}
use Rattle.lane_core.specs.Sight.{Arrival}
use Rattle.lane_core.specs.Records.{VersionedPacket}
use Rattle.lane_composition.specs.Members.{Endings, Members, name_of}
use Rattle.lane_composition.specs.Lanes.{part}
use Rattle.lane_composition.specs.Named.{records_under}
use Rattle.run_outcome.specs.Rising.{NeverFalls}

abbrev pub versions_of : List Members → List ℕ
versions_of ms = map (λ m. m.version) ms

abbrev pub arrivals_of : List VersionedPacket → List Arrival
arrivals_of ps = map (λ p. p.arrival) ps

module _ (floor ceil : ℕ → ℕ) where
  -- a version that a packet may have
  abbrev pub IsWithin : ℕ → ℕ → Type 0
  IsWithin version number = (floor number ≤ version) × (version ≤ ceil number)

  pub record IsAllowed (endings : Endings) (lane : EndpointPair → ℕ) (packets : List Arrival) (vs : List ℕ) : Type 0 where
    pub count : length vs ≡ length (records_under endings vs packets)
    pub within : All (λ m. IsWithin m.version (name_of m)) (records_under endings vs packets)
    pub along : (l : ℕ) → NeverFalls (versions_of (part lane l (records_under endings vs packets)))

  -- what a lane has for the packets of a share or of its front: versions that they may have, which never fall
  pub record AreStamped (stamped : List VersionedPacket) : Type 0 where
    pub within : All (λ p. IsWithin p.version p.arrival.number) stamped
    pub along : NeverFalls (map (λ p. p.version) stamped)
