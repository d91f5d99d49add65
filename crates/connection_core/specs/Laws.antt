-- Not of the headline. What the callbacks of a raise are, and how a phase goes on from raise to raise, in the subject's own words.
use Rattle.std.specs.Prelude.{◌≡◌, ℕ, List, [], ◌∷◌, ◌++◌, map}
use Rattle.std.specs.List.Sorted.{IsStrictlySortedBy}
use Rattle.native_filters.specs.declared.facts.Facts.{Facts}
use Rattle.native_filters.specs.declared.facts.Hook.{Hook}
use Rattle.tcp_emulation.specs.declared.segment.Side.{Side}
use Rattle.app_api.specs.declared.entry.Entry.{Entry}
use Rattle.app_api.specs.declared.registration.Reg.{Reg}
use Rattle.app_api.specs.App.{Meaning}
use Rattle.builtin_events.specs.declared.raise.Raise.{Raise}
use Rattle.event_trees.specs.declared.defs.EventDef.{EventDef}
use Rattle.event_trees.specs.Private.{IsPrivate, reg_cmp}
use Rattle.event_trees.specs.Fires.{fires}
use Rattle.forest_versions.specs.State.{ControlState}
use Rattle.connection_core.specs.PacketUnderWay.{PacketUnderWay, raise_done, phase}

-- a callback: the packet's number, the side, the registration and its event
pub record Callback : Type 0 where
  pub index : ℕ
  pub hook : Hook
  pub event : ℕ
  pub reg : ℕ

abbrev pub callback_of : Entry → Callback
callback_of entry = record { index = entry.index; hook = entry.hook; event = entry.event; reg = entry.reg }

abbrev pub callbacks_in : List Entry → List Callback
callbacks_in entries = map callback_of entries

-- the callbacks of one raise: the registrations of a list with its hook and root whose filters on the whole path are true
abbrev pub callbacks_at : ℕ → List EventDef → List Reg → Raise → List Callback
callbacks_at number defs list raise =
    map (λ r. record { index = number; hook = raise.hook; event = r.event; reg = r.number }) (fires defs raise.facts raise.hook raise.event list)

-- Each raise of a phase calls those registrations that fire of the private list as it is when the raise begins; the
-- next raise begins where it ended, with its changes made; and those that fire stand by path and then by number.
pub record CallsWhatFires : Type 0 where
  pub raise_calls : (app : Meaning) (s : ControlState) (number : ℕ) (from : Side) (raise : Raise) (c : PacketUnderWay)
      → callbacks_in (raise_done app s number from raise c).entries
      ≡ callbacks_in c.entries ++ callbacks_at number s.defs c.active raise
  pub raise_by_raise : (app : Meaning) (s : ControlState) (number : ℕ) (from : Side)
      (raises : List Raise) (raise : Raise) (c : PacketUnderWay)
      → phase app s number from (raises ++ raise ∷ []) c
      ≡ raise_done app s number from raise (phase app s number from raises c)
  pub in_order : (defs : List EventDef) (list : List Reg) (facts : Facts) (hook : Hook) (event : ℕ) → IsPrivate defs list
      → IsStrictlySortedBy (reg_cmp defs) (fires defs facts hook event list)
