-- Not of the headline. What was in force at each version, as look-ups tell it.
use Rattle.std.specs.Prelude.{◌≡◌, ℕ, ◌≤◌, ◌<◌, Option, Some, None, List, [], set, slice_index_or}
use Rattle.reassembly.specs.declared.answers.Policy.{Policy}
use Rattle.app_api.specs.declared.registration.Reg.{Reg}
use Rattle.app_api.specs.declared.rule.Rule.{Rule}
use Rattle.forest_versions.specs.declared.command.Command.{Command}
use Rattle.forest_versions.specs.declared.command.Command.TheVariants.{Event, Register, Unregister, Buffer, Overlap, AddRule, RemoveRule, Idle}
use Rattle.app_api.specs.Reg.{reg_of}
use Rattle.forest_versions.specs.State.{ControlState}
use Rattle.forest_versions.specs.Rules.{put_rule, without_rule}
use Rattle.forest_versions.specs.Timeline.{Line, stepped, IsBefore}

pub record PastLines : Type 0 where
  -- the registration of each number, if there is one
  pub regs : List (Line (Option Reg))
  pub policy : Line Policy
  pub rbuf : Line ℕ
  pub rules : Line (List Rule)
  pub idle : Line (Option ℕ)

-- a number that was never registered
abbrev pub never : Line (Option Reg)
never = record { first = None; steps = [] }

abbrev pub line_of : PastLines → ℕ → Line (Option Reg)
line_of past number = slice_index_or past.regs number never

-- a number has this registration, or none, from a version on
abbrev pub with_reg : PastLines → ℕ → ℕ → Option Reg → PastLines
with_reg past number from reg = record past { regs = set past.regs number (stepped (line_of past number) from reg) }

-- with a command that is in force from a version on. The rules before it are given
unfoldable pub noted : ℕ → List Rule → Command → PastLines → PastLines
noted from rules (Event d) past = past
noted from rules (Register r) past = with_reg past r.number from (Some r)
noted from rules (Unregister number) past = with_reg past number from None
noted from rules (Buffer bytes) past = record past { rbuf = stepped past.rbuf from bytes }
noted from rules (Overlap policy) past = record past { policy = stepped past.policy from policy }
noted from rules (AddRule r) past = record past { rules = stepped past.rules from (put_rule r rules) }
noted from rules (RemoveRule number) past = record past { rules = stepped past.rules from (without_rule number rules) }
noted from rules (Idle seconds) past = record past { idle = stepped past.idle from (Some seconds) }

-- each change is before a version
pub record AreBefore (past : PastLines) (v : ℕ) : Type 0 where
  pub regs : (number : ℕ) → IsBefore (line_of past number) v
  pub policy : IsBefore past.policy v
  pub rbuf : IsBefore past.rbuf v
  pub rules : IsBefore past.rules v
  pub idle : IsBefore past.idle v

-- no change yet: at each version it is what this state has
pub record IsPastOf (s : ControlState) (past : PastLines) : Type 0 where
  pub regs : (number : ℕ) → number ≤ 255 → line_of past number ≡ record { first = reg_of s.regs number; steps = [] }
  pub past_end : (number : ℕ) → 255 < number → line_of past number ≡ never
  pub policy : past.policy ≡ record { first = s.policy; steps = [] }
  pub rbuf : past.rbuf ≡ record { first = s.rbuf; steps = [] }
  pub rules : past.rules ≡ record { first = s.rules; steps = [] }
  pub idle : past.idle ≡ record { first = s.idle; steps = [] }
