-- Versions of records, given by a list: the j-th record has the j-th version of the list, or 0 where the list is too short.
use Rattle.std.specs.Prelude.{ℕ, List, [], ◌∷◌, length, get_or, map}
use Rattle.app_api.specs.App.{Meaning}
use Rattle.forest_versions.specs.State.{ControlState}
use Rattle.lane_core.specs.Sight.{Arrival}
use Rattle.lane_core.specs.Records.{VersionedPacket, RecordSoFar, added}

-- the next packet, behind the records so far
abbrev pub listed : List ℕ → List RecordSoFar → Arrival → VersionedPacket
listed vs so_far a = record { version = get_or vs (length so_far) 0; arrival = a }

module _ (app : Meaning) (control_at : ℕ → ControlState) where
  -- packets, each with the version of the record that it would begin, behind the records so far
  unfoldable pub listed_from : List ℕ → List RecordSoFar → List Arrival → List VersionedPacket
  listed_from vs so_far [] = []
  listed_from vs so_far (a ∷ rest) = listed vs so_far a ∷ listed_from vs (added app control_at (listed vs so_far a) so_far) rest

-- the versions of records
abbrev pub versions_in : List RecordSoFar → List ℕ
versions_in records = map (λ r. r.version) records
