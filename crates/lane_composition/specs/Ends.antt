-- Not of the headline. What lanes end with, one after the other, and what their ends come to.
use Rattle.std.specs.Prelude.{◌≡◌, ◌<◌, ℕ, ◌+◌, ◌-◌, ◌^◌, min, Bool, Option, List, [], ◌∷◌, length, get_or, map}
use Rattle.app_api.specs.App.{Meaning}
use Rattle.report_text.specs.declared.record.Record.{Record}
use Rattle.lane_core.specs.declared.end.KeptEnd.{KeptEnd}
use Rattle.lane_core.specs.KeptEnd.{IsKeptEnd}
use Rattle.lane_core.specs.Records.{RecordSoFar}
use Rattle.lane_core.specs.Sight.{Moment}
use Rattle.lane_core.specs.Run.{LaneEvent, ended_run}
use Rattle.lane_core.specs.Shown.{callbacks_of, drop_count, weight}
use Rattle.lane_core.specs.Lane.{shown}
use Rattle.lane_composition.specs.Taken.{events_at}

-- each lane's end is that of the lane's run, where `last` is the greatest moment of all packets
pub record AreEnds (keep : Bool) (app : Meaning) (last : Option Moment) (lanes : List (List LaneEvent)) (ends : List KeptEnd) : Type 0 where
  pub count : length lanes ≡ length ends
  pub each : (l : ℕ) (d : KeptEnd) → l < length ends → IsKeptEnd keep app (ended_run app (events_at lanes l) last) (get_or ends l d)

-- what is counted at each end, added up
abbrev pub sum_of : (KeptEnd → ℕ) → List KeptEnd → ℕ
sum_of count [] = 0
sum_of count (end ∷ ends) = count end + sum_of count ends

-- what the report shows of these records, and what is counted over them; a count stays at the greatest number of 64 bits
pub record IsJoined (keep : Bool) (app : Meaning) (run : List RecordSoFar) (records : List Record) (callbacks weighs drops : ℕ) : Type 0 where
  pub records_are : records ≡ map (shown keep app) run
  pub callbacks_are : callbacks ≡ min (callbacks_of run) (2 ^ 64 - 1)
  pub weight_is : weighs ≡ min (weight run) (2 ^ 64 - 1)
  pub drops_are : drops ≡ min (drop_count run) (2 ^ 64 - 1)
