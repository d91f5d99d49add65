-- Not of the headline. What is lent to a connection: the master, and the version at which it began.
use Rattle.std.specs.Prelude.{ℕ, Option, List}
use Rattle.app_api.specs.declared.registration.Reg.{Reg}
use Rattle.event_trees.specs.declared.defs.EventDef.{EventDef}
use Rattle.forest_versions.specs.State.{ControlState}
use Rattle.forest_versions.specs.Timeline.{as_of}
use Rattle.forest_versions.specs.Past.{line_of}
use Rattle.forest_versions.specs.Master.{Versions, Tells, defs_of}
use Rattle.connection_core.specs.declared.in_force.InForce.{InForce}

-- the registration of a number, as a master tells it of a version
abbrev pub registered_at : Versions → ℕ → ℕ → Option Reg
registered_at m v number = as_of (line_of m.past number) v

-- the registration of a number at the connection's version
abbrev pub registered : InForce → ℕ → Option Reg
registered lent number = registered_at lent.master.now lent.version number

-- the definitions by which registrations are called: the present ones, of which those of the version are a front
abbrev pub defs_at : InForce → List EventDef
defs_at lent = defs_of lent.master.now

-- what is looked up is this control state
abbrev pub IsInForce : InForce → ControlState → Type 0
IsInForce lent s = Tells lent.master.now lent.version s

-- what holds of the control state that is in force
abbrev pub ForControl : InForce → (ControlState → Type 0) → Type 0
ForControl lent holds = (s : ControlState) → IsInForce lent s → holds s
