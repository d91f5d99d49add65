-- Which commands may be given, and why another may not.
use Rattle.std.specs.Prelude.{◌≡◌, ℕ, ◌≤◌, IsTrue, false, ◌&&◌, not, Bool, true, if◌then◌else◌, nat_le, nat_lt, is_some, is_none, Option, Some, None, List, [], ◌∷◌, length, slice_index}
use Rattle.std.specs.List.{list_all}
use Rattle.app_api.specs.declared.registration.Reg.{Reg}
use Rattle.app_api.specs.declared.rule.Rule.{Rule}
use Rattle.native_filters.specs.Hook.{is_hook}
use Rattle.native_filters.specs.declared.facts.Hook.TheVariants.{Rcv}
use Rattle.app_api.specs.Events.{LAST, allows_hook}
use Rattle.app_api.specs.Reg.{peek_fits, reg_of}
use Rattle.event_trees.specs.declared.defs.EventDef.{EventDef}
use Rattle.event_trees.specs.Defs.{found, is_event, path}
use Rattle.forest_versions.specs.declared.command.Command.{Command}
use Rattle.forest_versions.specs.declared.command.Command.TheVariants.{Event, Register, Unregister, Buffer, Overlap, AddRule, RemoveRule, Idle}
use Rattle.forest_versions.specs.declared.refusal.Refusal.{Refusal}
use Rattle.forest_versions.specs.declared.refusal.Refusal.TheVariants.{Duplicate, NoSuchNumber, TooDeep, WrongHook}
use Rattle.forest_versions.specs.Rules.{rule_of}
use Rattle.forest_versions.specs.State.{ControlState, after}

-- whether a number may name an event: those below the built-in ones are for user-defined ones
abbrev pub may_be_event : ℕ → Bool
may_be_event event = nat_le 1 event && nat_le event LAST

-- whether a number may name a registration or a rule
abbrev pub may_be_number : ℕ → Bool
may_be_number number = nat_le 1 number && nat_le number 255

-- whether the numbers of a registration of a script are in their ranges
abbrev pub is_reg_within : Reg → Bool
is_reg_within r =
    nat_le 16 r.number && nat_le r.number 255 && may_be_event r.event && peek_fits r.peek
    && list_all (λ c. may_be_number c.reg) r.action.changes

-- whether the numbers of a rule are in their ranges
abbrev pub is_rule_within : Rule → Bool
is_rule_within r =
    may_be_number r.number && nat_le r.src_len 32 && nat_le r.dst_len 32 && nat_le r.low r.high && nat_le r.high 65535

-- whether the numbers of a command are in their ranges
unfoldable pub is_within : Command → Bool
is_within (Event d) = nat_le 1 d.number && nat_le d.number 255 && may_be_event d.parent
is_within (Register r) = is_reg_within r
is_within (Unregister number) = may_be_number number
is_within (Buffer bytes) = nat_le 1 bytes && nat_le bytes 1048576
is_within (Overlap policy) = true
is_within (AddRule r) = is_rule_within r
is_within (RemoveRule number) = may_be_number number
is_within (Idle seconds) = nat_le 1 seconds && nat_le seconds 4294967295

-- the built-in event above an event
abbrev pub root : List EventDef → ℕ → ℕ
root defs event = slice_index (path defs event) 0

-- whether a registration may stand under a built-in event: the event is raised at its hook, and only a hook at the sender drops
abbrev pub hook_may_be : ℕ → Reg → Bool
hook_may_be event r = allows_hook event r.hook && not (is_hook r.hook Rcv && r.action.drop)

-- why an event can't be defined
abbrev pub event_refusal : List EventDef → EventDef → Option Refusal
event_refusal defs d =
    if is_some (found defs d.number) then Some Duplicate else
    if not (is_event defs d.parent) then Some NoSuchNumber else
    if nat_lt 7 (length (path defs d.parent)) then Some TooDeep else
    None

-- why a registration can't be made
abbrev pub reg_refusal : List EventDef → List Reg → Reg → Option Refusal
reg_refusal defs regs r =
    if is_some (reg_of regs r.number) then Some Duplicate else
    if not (is_event defs r.event) then Some NoSuchNumber else
    if not (hook_may_be (root defs r.event) r) then Some WrongHook else
    None

-- why a number can't be taken, and why it can't be removed
abbrev pub taken : Bool → Option Refusal
taken there = if there then Some Duplicate else None

abbrev pub missing : Bool → Option Refusal
missing there = if there then None else Some NoSuchNumber

-- why a command can't be given in a state: the first reason that holds
unfoldable pub refusal : ControlState → Command → Option Refusal
refusal s (Event d) = event_refusal s.defs d
refusal s (Register r) = reg_refusal s.defs s.regs r
refusal s (Unregister number) = missing (is_some (reg_of s.regs number))
refusal s (AddRule r) = taken (is_some (rule_of s.rules r.number))
refusal s (RemoveRule number) = missing (is_some (rule_of s.rules number))
refusal s _ = None

-- whether a command may be given in a state
unfoldable pub is_lawful : ControlState → Command → Bool
is_lawful s c = is_within c && is_none (refusal s c)

-- whether each command may be given where it stands
abbrev pub are_lawful : ControlState → List Command → Bool
are_lawful s [] = true
are_lawful s (c ∷ commands) = is_lawful s c && are_lawful (after s c) commands

-- a registration that may be added, and needs its hook no more
pub record IsRegistrable (s : ControlState) (r : Reg) : Type 0 where
  pub low : 1 ≤ r.number
  pub high : r.number ≤ 255
  pub absent : reg_of s.regs r.number ≡ None
  pub event : IsTrue (is_event s.defs r.event)
  pub peek : IsTrue (peek_fits r.peek)

-- whether a command leaves events and registrations as they are
abbrev pub is_setting : Command → Bool
is_setting (Event d) = false
is_setting (Register r) = false
is_setting (Unregister number) = false
is_setting (Buffer bytes) = true
is_setting (Overlap policy) = true
is_setting (AddRule r) = true
is_setting (RemoveRule number) = true
is_setting (Idle seconds) = true
