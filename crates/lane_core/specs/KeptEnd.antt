-- Not of the headline. What a lane ends with where its records stay as it kept them.
use Rattle.std.specs.Prelude.{◌≡◌, Bool, List, map}
use Rattle.app_api.specs.App.{Meaning}
use Rattle.report_text.specs.declared.record.Record.{Record}
use Rattle.lane_core.specs.declared.end.KeptEnd.{KeptEnd}
use Rattle.lane_core.specs.declared.under_way.RecordUnderWay.{RecordUnderWay}
use Rattle.lane_core.specs.End.{ended}
use Rattle.lane_core.specs.Lane.{shown}
use Rattle.lane_core.specs.Records.{RecordSoFar}
use Rattle.lane_core.specs.Shown.{callbacks_of, drop_count, weight}

-- records that were kept, as the report shows them
abbrev pub shown_as : Meaning → List RecordUnderWay → List Record
shown_as app records = map (ended app) records

-- it is what a lane with these records ends with
pub record IsKeptEnd (keep : Bool) (app : Meaning) (so_far : List RecordSoFar) (end : KeptEnd) : Type 0 where
  pub records_are : shown_as app end.records ≡ map (shown keep app) so_far
  pub versions_are : map (λ r. r.version) end.records ≡ map (λ r. r.version) so_far
  pub callbacks_are : end.callbacks ≡ callbacks_of so_far
  pub weight_is : end.weight ≡ weight so_far
  pub drops_are : end.drops ≡ drop_count so_far
