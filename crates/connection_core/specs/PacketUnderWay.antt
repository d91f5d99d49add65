-- A packet's callbacks, one after the other. What they have come to is a packet under way: each callback is one step of it, a raise calls all
-- registrations that fire and then makes the changes that were asked, and a phase makes its raises in order.
use Rattle.std.specs.Prelude.{ℕ, ◌+◌, Bool, true, false, not, nat_lt, Option, Some, None, is_some, List, [], ◌∷◌, ◌++◌, length, if◌then◌else◌}
use Rattle.std.specs.Option.{option_or}
use Rattle.tcp_emulation.specs.declared.segment.Side.{Side}
use Rattle.flow_socket.specs.Emulation.{Emulation}
use Rattle.flow_socket.specs.Peek.{peeked, bytes_peeked, after_peek, pieces_at}
use Rattle.app_api.specs.declared.app.Call.{Call}
use Rattle.app_api.specs.declared.app.Tally.{Tally}
use Rattle.app_api.specs.declared.changes.Change1.{Change1}
use Rattle.app_api.specs.declared.entry.Entry.{Entry}
use Rattle.app_api.specs.declared.entry.Seen.{Seen}
use Rattle.app_api.specs.declared.entry.Seen.TheVariants.{Nothing as SawNothing, Next as SawNext, At as SawAt}
use Rattle.app_api.specs.declared.reaction.Reaction.{Reaction}
use Rattle.app_api.specs.declared.reaction.Reason.{Reason}
use Rattle.app_api.specs.declared.reaction.Reason.TheVariants.{Reg as ByReg}
use Rattle.app_api.specs.declared.registration.PeekSpec.{PeekSpec}
use Rattle.app_api.specs.declared.registration.PeekSpec.TheVariants.{Nothing, Next, At}
use Rattle.app_api.specs.declared.registration.Reg.{Reg}
use Rattle.app_api.specs.declared.rule.Rule.{Rule}
use Rattle.app_api.specs.App.{Meaning}
use Rattle.app_api.specs.Reg.{reg_of}
use Rattle.builtin_events.specs.declared.raise.Raise.{Raise}
use Rattle.event_trees.specs.Private.{edited}
use Rattle.event_trees.specs.Fires.{fires}
use Rattle.forest_versions.specs.State.{ControlState}

-- The emulated connection; the private list, and how often it was altered; what the application keeps; the callbacks made, in
-- order; the changes asked in this raise, in order; the first reason for which a drop was asked.
pub record PacketUnderWay : Type 0 where
  pub emulation : Emulation
  pub active : List Reg
  pub altered : ℕ
  pub tally : Tally
  pub entries : List Entry
  pub asked : List Change1
  pub drop : Option Reason

-- ---- one callback

-- what a callback sees: it peeks at the stream that the packet's sender sends
abbrev pub seen_by : Side → PeekSpec → Emulation → Seen
seen_by from Nothing e = SawNothing
seen_by from (Next n) e = SawNext (peeked from n e).at (peeked from n e).missed (bytes_peeked from n e)
seen_by from (At place n) e = SawAt place (pieces_at from place n e)

-- only a peek at the next bytes moves a mark, that of this stream
abbrev pub after_seen : Side → PeekSpec → Emulation → Emulation
after_seen from (Next n) e = after_peek from n e
after_seen from _ e = e

abbrev pub bytes_in : List (ℕ × List ℕ) → ℕ
bytes_in [] = 0
bytes_in (piece ∷ pieces) = length piece.1 + bytes_in pieces

-- how many bytes it saw
abbrev pub bytes_seen : Seen → ℕ
bytes_seen SawNothing = 0
bytes_seen (SawNext at missed bytes) = length bytes
bytes_seen (SawAt place pieces) = bytes_in pieces

-- the call as the application sees it: the event is that of the registration, which may lie below the raised one
abbrev pub call_of : Raise → Reg → Seen → Call
call_of raise r seen =
    record { reg = r.number; hook = raise.hook; event = r.event; facts = raise.facts; got = bytes_seen seen }

-- what the report tells of it
abbrev pub entry_of : ℕ → Raise → Reg → Seen → Entry
entry_of number raise r seen =
    record { index = number; hook = raise.hook; event = r.event; reg = r.number; seen = seen }

-- what the action of a script's registration asks
abbrev pub asked_by : Reg → Reaction
asked_by r = record { drop = (if r.action.drop then Some (ByReg r.number) else None); changes = r.action.changes }

-- presets have the numbers 1 to 15 and run their application; any other registration does what its script says
abbrev pub reaction_of : Meaning → List Rule → Reg → Call → Tally → Tally × Reaction
reaction_of app rules r call tally = if nat_lt r.number 16 then app.react tally call rules else (tally, asked_by r)

-- one callback of the packet with this number: it peeks, leaves an entry, and reacts; the first reason for a drop stays
unfoldable pub called : Meaning → ControlState → ℕ → Side → Raise → PacketUnderWay → Reg → PacketUnderWay
called app control number from raise c r =
    let seen = seen_by from r.peek c.emulation in
    let answer = reaction_of app control.rules r (call_of raise r seen) c.tally in record c {
      emulation = after_seen from r.peek c.emulation;
      tally = answer.0;
      entries = c.entries ++ entry_of number raise r seen ∷ [];
      asked = c.asked ++ answer.1.changes;
      drop = option_or c.drop answer.1.drop;
    }

-- ---- the callbacks of a raise

abbrev pub called_all : Meaning → ControlState → ℕ → Side → Raise → PacketUnderWay → List Reg → PacketUnderWay
called_all app control number from raise c [] = c
called_all app control number from raise c (r ∷ rs) =
    called_all app control number from raise (called app control number from raise c r) rs

-- all registrations of the private list that fire, in its order: by path, and then by number
unfoldable pub called_at : Meaning → ControlState → ℕ → Side → Raise → PacketUnderWay → PacketUnderWay
called_at app control number from raise c =
    called_all app control number from raise c (fires control.defs raise.facts raise.hook raise.event c.active)

-- the same of several raises, all of one list: those of a packet of no connection, where changes come to nothing
unfoldable pub raised : Meaning → ControlState → ℕ → Side → List Raise → PacketUnderWay → PacketUnderWay
raised app control number from [] c = c
raised app control number from (raise ∷ raises) c =
    raised app control number from raises (called_at app control number from raise c)

-- ---- changes

abbrev pub is_on : ℕ → List Reg → Bool
is_on number active = is_some (reg_of active number)

abbrev pub altered_to : List Reg → PacketUnderWay → PacketUnderWay
altered_to active c = record c { active = active; altered = c.altered + 1 }

abbrev pub is_so : Bool → Bool → Bool
is_so now true = now
is_so now false = not now

-- a registration is switched on or off, where it isn't so already
abbrev pub switched : ControlState → Option Reg → Bool → PacketUnderWay → PacketUnderWay
switched control None on c = c
switched control (Some r) on c =
    if is_so (is_on r.number c.active) on then c else altered_to (edited control.defs c.active r on) c

-- one change; it does nothing where its number isn't registered
unfoldable pub changed : ControlState → Change1 → PacketUnderWay → PacketUnderWay
changed control change c = switched control (reg_of control.regs change.reg) change.on c

abbrev pub changed_all : ControlState → List Change1 → PacketUnderWay → PacketUnderWay
changed_all control [] c = c
changed_all control (change ∷ changes) c = changed_all control changes (changed control change c)

-- the changes that were asked are made, in the order in which they were asked
unfoldable pub settled : ControlState → PacketUnderWay → PacketUnderWay
settled control c = record (changed_all control c.asked c) { asked = [] }

-- ---- a raise, and the raises of a phase

-- One raise. This is where changes take effect: at its end. So all its callbacks are of the list as it was at its
-- beginning, and the next raise, of this phase or of a later one, is of the changed list.
unfoldable pub raise_done : Meaning → ControlState → ℕ → Side → Raise → PacketUnderWay → PacketUnderWay
raise_done app control number from raise c = settled control (called_at app control number from raise c)

unfoldable pub phase : Meaning → ControlState → ℕ → Side → List Raise → PacketUnderWay → PacketUnderWay
phase app control number from [] c = c
phase app control number from (raise ∷ raises) c =
    phase app control number from raises (raise_done app control number from raise c)
