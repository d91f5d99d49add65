-- Only for proofs. What holds of the records of a lane between its calls.
use Rattle.std.specs.Prelude.{◌≡◌, ℕ, ◌+◌, ◌<◌, ◌≤◌, ◌*◌, List, [], ◌∷◌, ◌++◌}
use Rattle.shared_forest.specs.declared.store.ForestView.{Ghosts}
use Rattle.shared_forest.specs.declared.store.Shared.{Shared}
use Rattle.shared_forest.specs.Store.{Keeps}
use Rattle.shared_forest.specs.Lists.{TreeLists}
use Rattle.shared_forest.specs.Listing.{listing}
use Rattle.event_trees.specs.Edit.{IsForestOf}
use Rattle.app_api.specs.declared.registration.Reg.{Reg}
use Rattle.forest_versions.specs.declared.command.Command.{Command}
use Rattle.forest_versions.specs.Master.{Versions, StandsFor}
use Rattle.forest_versions.specs.State.{active, after as state_after}
use Rattle.connection_core.specs.InForce.{registered_at}
use Rattle.connection_core.specs.Trees.{active_in}
use Rattle.connection_core.specs.declared.ledger.Counts.{Counts}
use Rattle.lane_core.specs.declared.connection.Connection.{Connection}
use Rattle.lane_core.specs.Trees.{IsTree}

-- of an open connection: its record is one of so many, its tree calls the registrations of its version, and it had no more packets
-- than came
pub record IsLive (known : Shared → Type 0) (content : Shared → TreeLists) (m : Versions) (places packets : ℕ) (conn : Connection) : Type 0 where
  pub placed : conn.place < places
  pub answered : known conn.flow.forest
  pub tree : IsTree m conn.version (content conn.flow.forest)
  pub since : conn.version ≤ m.version
  pub short : conn.flow.count ≤ packets

-- each packet made at most 16 raises of 255 callbacks, one record, and one drop; each open connection may still make one raise, at its end
pub record AreCounted (counts : Counts) (places opened dropped packets : ℕ) : Type 0 where
  pub callbacks : counts.callbacks + 255 * opened ≤ 4335 * packets
  pub weight : counts.weight + 73440 * opened ≤ 1248480 * packets
  pub few : places ≤ packets
  pub few_dropped : dropped ≤ packets
  pub numbered : packets ≤ 1048576

-- by the tree that the master holds, the registrations are called that are on now
pub record HasFirst (known : Shared → Type 0) (content : Shared → TreeLists) (m : Versions) : Type 0 where
  pub answered : known m.forest
  pub tree : IsForestOf m.now.defs (active m.now) (listing (content m.forest))

-- the tree of an open connection, which the store answered, calls the registrations of its version
pub record IsCalled (known : Shared → Type 0) (content : Shared → TreeLists) (m : Versions) (conn : Connection) : Type 0 where
  pub answered : known conn.flow.forest
  pub tree : IsTree m conn.version (content conn.flow.forest)

-- a connection went on by at most one packet, over a store that keeps what it answered
pub record CarriesOn {F : Type 0} (store : Ghosts F) (m : Versions) (old new : F) (conn conn_after : Connection) : Type 0 where
  pub place : conn_after.place ≡ conn.place
  pub version : conn_after.version ≡ conn.version
  pub count : conn_after.flow.count ≤ conn.flow.count + 1
  pub answered : store.answered new conn_after.flow.forest
  pub tree : IsTree m conn_after.version (store.content new conn_after.flow.forest)
  pub kept : Keeps store.answered store.content old new

-- a command was given to a master: whatever commands it stood for, it stands for these with it behind them
pub record TakesCommand (m after : Versions) (c : Command) : Type 0 where
  pub commands : (presets : List Reg) (commands : List Command) → StandsFor m presets commands → StandsFor after presets (commands ++ c ∷ [])
  pub now : after.now ≡ state_after m.now c
  pub version : after.version ≡ m.version + 1

-- the trees of earlier versions, and what they name, are as they were
pub record LeavesTrees {F : Type 0} (store : Ghosts F) (m after : Versions) (old new : F) : Type 0 where
  pub first : HasFirst (store.answered new) (store.content new) after
  pub kept : Keeps store.answered store.content old new
  pub later : m.version ≤ after.version
  pub trees : (v : ℕ) (tree : TreeLists) → v ≤ m.version → IsTree m v tree → IsTree after v tree
  pub lists : (v : ℕ) (tree : TreeLists) → v ≤ m.version → IsTree m v tree → active_in (registered_at after v) tree ≡ active_in (registered_at m v) tree
