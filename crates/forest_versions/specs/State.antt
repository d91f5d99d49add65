-- What is in force after a number of commands.
use Rattle.std.specs.Prelude.{ℕ, Bool, true, false, Option, Some, None, List, [], ◌∷◌, ◌++◌, take}
use Rattle.std.specs.List.{filter, fold}
use Rattle.reassembly.specs.declared.answers.Policy.{Policy}
use Rattle.reassembly.specs.declared.answers.Policy.TheVariants.{First}
use Rattle.app_api.specs.declared.registration.Reg.{Reg}
use Rattle.app_api.specs.declared.rule.Rule.{Rule}
use Rattle.event_trees.specs.declared.defs.EventDef.{EventDef}
use Rattle.shared_forest.specs.Lists.{TreeLists}
use Rattle.event_trees.specs.Private.{put_reg, without}
use Rattle.event_trees.specs.Edit.{IsTreeOf}
use Rattle.forest_versions.specs.declared.command.Command.{Command}
use Rattle.forest_versions.specs.declared.command.Command.TheVariants.{Event, Register, Unregister, Buffer, Overlap, AddRule, RemoveRule, Idle}
use Rattle.forest_versions.specs.Rules.{put_rule, without_rule}

-- the control state: what a connection that begins now lives under
pub record ControlState : Type 0 where
  -- the user-defined events, in the order of their definition
  pub defs : List EventDef
  -- the registrations, also those that are off, in the order in which they are called
  pub regs : List Reg
  -- which byte stays where a segment brings another one
  pub policy : Policy
  -- the receive buffer in bytes
  pub rbuf : ℕ
  -- the rules for the application, by number
  pub rules : List Rule
  -- a connection that was silent for more seconds than these has ended; none where no command said so
  pub idle : Option ℕ

-- the presets, each at its place
abbrev pub presets_in : List Reg → List Reg
presets_in presets = fold (λ regs r. put_reg [] r regs) [] presets

-- before the first command
unfoldable pub start : List Reg → ControlState
start presets = record { defs = []; regs = presets_in presets; policy = First; rbuf = 65536; rules = []; idle = None }

-- after one command more. Events are never removed
unfoldable pub after : ControlState → Command → ControlState
after s (Event d) = record s { defs = s.defs ++ d ∷ [] }
after s (Register r) = record s { regs = put_reg s.defs r s.regs }
after s (Unregister number) = record s { regs = without number s.regs }
after s (Buffer bytes) = record s { rbuf = bytes }
after s (Overlap policy) = record s { policy = policy }
after s (AddRule r) = record s { rules = put_rule r s.rules }
after s (RemoveRule number) = record s { rules = without_rule number s.rules }
after s (Idle seconds) = record s { idle = Some seconds }

-- with one registration more, and without that of a number
abbrev pub registered : ControlState → Reg → ControlState
registered s r = record s { regs = put_reg s.defs r s.regs }

abbrev pub withdrawn : ControlState → ℕ → ControlState
withdrawn s number = record s { regs = without number s.regs }

-- what is in force after these commands
unfoldable pub control : List Reg → List Command → ControlState
control presets commands = fold after (start presets) commands

-- what is in force at a version: after the first v commands
abbrev pub master : List Reg → List Command → ℕ → ControlState
master presets commands v = control presets (take v commands)

-- the private list with which a connection starts: the registrations that are on
abbrev pub active : ControlState → List Reg
active s = filter (λ r. r.on) s.regs

-- the tree is that of the registrations that are on
abbrev pub IsTreeFor : ControlState → TreeLists → Type 0
IsTreeFor s tree = IsTreeOf s.defs (active s) tree

-- whether a command sets how long a connection may be silent
abbrev pub is_idle_limit : Command → Bool
is_idle_limit (Idle seconds) = true
is_idle_limit other = false
