-- Only for proofs. A connection that a segment opens, before this segment.
use Rattle.std.specs.Prelude.{◌≡◌}
use Rattle.shared_forest.specs.Lists.{TreeLists}
use Rattle.forest_versions.specs.Master.{Versions}
use Rattle.connection_core.specs.InForce.{registered_at}
use Rattle.connection_core.specs.History.{fresh}
use Rattle.connection_core.specs.Standing.{IsFlow}
use Rattle.lane_core.specs.declared.connection.Connection.{Connection}
use Rattle.lane_core.specs.Sight.{Segment}
use Rattle.lane_core.specs.Steps.{Taking}

-- it has no packet yet, and comes under what is in force now
pub record IsNew (t : Taking) (m : Versions) (tree : TreeLists) (segment : Segment) (conn : Connection) : Type 0 where
  pub client : conn.client ≡ segment.sender
  pub version : conn.version ≡ m.version
  pub count : conn.flow.count ≡ 0
  pub flow : IsFlow (registered_at m conn.version) tree conn.flow (fresh t.app m.now)
