-- Not of the headline. What a master stands for: presets and commands, at each version up to the present.
use Rattle.std.specs.Prelude.{◌≡◌, ℕ, ◌+◌, ◌≤◌, IsTrue, List, length}
use Rattle.shared_forest.specs.declared.store.Shared.{Shared}
use Rattle.shared_forest.specs.Lists.{TreeLists}
use Rattle.app_api.specs.declared.registration.Reg.{Reg}
use Rattle.app_api.specs.Reg.{reg_of, are_presets}
use Rattle.event_trees.specs.declared.defs.EventDef.{EventDef}
use Rattle.event_trees.specs.Later.{IsEarlier}
use Rattle.forest_versions.specs.declared.command.Command.{Command}
use Rattle.forest_versions.specs.State.{ControlState, IsTreeFor, start, control, master}
use Rattle.forest_versions.specs.Lawful.{are_lawful}
use Rattle.forest_versions.specs.Sound.{IsSound}
use Rattle.forest_versions.specs.Timeline.{as_of}
use Rattle.forest_versions.specs.Past.{PastLines, line_of, AreBefore}

-- what a master shows
pub record Versions : Type 0 where
  -- the number of commands so far
  pub version : ℕ
  -- the tree of the registrations that are on
  pub forest : Shared
  -- what is in force now
  pub now : ControlState
  -- what was in force at each version
  pub past : PastLines

-- the present definitions; those of an earlier version are a front of them
abbrev pub defs_of : Versions → List EventDef
defs_of m = m.now.defs

-- a store with these trees holds the tree of the registrations that are on now
abbrev pub HasForest : (Shared → TreeLists) → Versions → Type 0
HasForest content m = IsTreeFor m.now (content m.forest)

-- the look-ups of a master at a version are those of this state
pub record Tells (m : Versions) (v : ℕ) (s : ControlState) : Type 0 where
  pub defs : IsEarlier s.defs m.now.defs
  pub regs : (number : ℕ) → number ≤ 255 → as_of (line_of m.past number) v ≡ reg_of s.regs number
  pub policy : as_of m.past.policy v ≡ s.policy
  pub rbuf : as_of m.past.rbuf v ≡ s.rbuf
  pub rules : as_of m.past.rules v ≡ s.rules
  pub idle : as_of m.past.idle v ≡ s.idle
  pub sound : IsSound s

-- true of what is in force at a version
abbrev pub AtVersion : Versions → ℕ → (ControlState → Type 0) → Type 0
AtVersion m v IsSo = (s : ControlState) → Tells m v s → IsSo s

-- a master with these presets and after these commands
pub record StandsFor (m : Versions) (first : List Reg) (commands : List Command) : Type 0 where
  pub presets : IsTrue (are_presets first)
  pub lawful : IsTrue (are_lawful (start first) commands)
  pub version : m.version ≡ length commands
  pub now : m.now ≡ control first commands
  pub told : (v : ℕ) → Tells m v (master first commands v)

-- what is true of every master
pub record IsMaster (m : Versions) : Type 0 where
  pub most : m.version ≤ 4096
  pub before : AreBefore m.past (m.version + 1)
  pub history : (presets : List Reg) × ((commands : List Command) × StandsFor m presets commands)
