-- Only for proofs. What holds of each open connection in the table of a lane.
use Rattle.std.specs.Prelude.{ℕ}
use Rattle.std.specs.Option.{ForSome}
use Rattle.flow_table.specs.Key.{EndpointPair}
use Rattle.flow_table.specs.Table.{Flows, found}
use Rattle.shared_forest.specs.Lists.{TreeLists}
use Rattle.forest_versions.specs.Master.{Versions, defs_of}
use Rattle.connection_core.specs.InForce.{registered_at}
use Rattle.connection_core.specs.Trees.{IsForestIn}
use Rattle.lane_core.specs.declared.connection.Connection.{Connection}

-- a tree by which the registrations of a version are called that it names
abbrev pub IsTree : Versions → ℕ → TreeLists → Type 0
IsTree m version tree = IsForestIn (defs_of m) (registered_at m version) tree

-- this holds of each open connection
abbrev pub AllOpen : (Connection → Type 0) → Flows Connection → Type 0
AllOpen holds flows = (key : EndpointPair) → ForSome (found flows key) holds
