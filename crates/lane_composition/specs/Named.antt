-- Not of the headline. Versions of records, given by a list: the j-th record has the j-th version of the list, or 0 where the list is too short.
use Rattle.std.specs.Prelude.{ℕ, List, [], ◌∷◌, length, get_or}
use Rattle.lane_core.specs.Sight.{Arrival}
use Rattle.lane_core.specs.Records.{VersionedPacket}
use Rattle.lane_composition.specs.Members.{Endings, Members, added, records}

-- the next packet
abbrev pub named_by : List ℕ → List Members → Arrival → VersionedPacket
named_by vs ms a = record { version = get_or vs (length ms) 0; arrival = a }

module _ (endings : Endings) where
  -- each packet with the version of the record that it would begin, behind the records so far
  unfoldable pub named_from : List ℕ → List Members → List Arrival → List VersionedPacket
  named_from vs ms [] = []
  named_from vs ms (a ∷ rest) = named_by vs ms a ∷ named_from vs (added endings (named_by vs ms a) ms) rest

  abbrev pub named : List ℕ → List Arrival → List VersionedPacket
  named vs arrivals = named_from vs [] arrivals

  -- the records of packets under a list of versions
  abbrev pub records_under : List ℕ → List Arrival → List Members
  records_under vs arrivals = records endings (named vs arrivals)
