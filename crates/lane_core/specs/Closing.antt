-- Only for proofs. What the end of a run does to its records.
use Rattle.std.specs.Prelude.{◌≡◌, ◌<◌, ℕ, Bool, true, Option, Some, map, set, get_or}
use Rattle.app_api.specs.App.{Meaning}
use Rattle.shared_forest.specs.declared.store.ForestView.{Ghosts}
use Rattle.lane_core.specs.declared.records.Records.{Records}
use Rattle.lane_core.specs.Sight.{Moment}
use Rattle.lane_core.specs.Records.{RecordSoFar, ended_at}
use Rattle.lane_core.specs.Shown.{weight}
use Rattle.lane_core.specs.Steps.{Taking}
use Rattle.lane_core.specs.Packets.{KeepsSoFar, ForSoFar}

module _ {F : Type 0} {store : Ghosts F} where
  -- the record at a place ended where it was open and idle for too long
  pub record EndsOne (t : Taking) (old new : Records F store) (place : ℕ) : Type 0 where
    pub ended : ForSoFar t.keep old (λ control_at so_far. (d : RecordSoFar)
        → KeepsSoFar t.keep new (set so_far place (ended_at t.app control_at (Some t.moment) (get_or so_far place d))))

  -- each record did; without a greatest moment none
  pub record EndsAll (app : Meaning) (keep : Bool) (old new : Records F store) (last : Option Moment) : Type 0 where
    pub ended : ForSoFar keep old (λ control_at so_far. KeepsSoFar keep new (map (ended_at app control_at last) so_far))

  -- entries are kept, and they weigh too much once each record did
  pub record IsTooHeavy (app : Meaning) (keep : Bool) (r : Records F store) (last : Option Moment) : Type 0 where
    pub keeps : keep ≡ true
    pub heavy : ForSoFar keep r (λ control_at so_far. 134217728 < weight (map (ended_at app control_at last) so_far))
