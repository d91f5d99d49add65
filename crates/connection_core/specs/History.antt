-- What a connection, or a packet of none, has come to.
use Rattle.std.specs.Prelude.{ℕ, ◌+◌, ◌==◌, Bool, Option, Some, None, List, [], ◌∷◌, ◌++◌}
use Rattle.packet_views.specs.declared.packet.Head.{Head}
use Rattle.tcp_emulation.specs.declared.segment.Side.{Side}
use Rattle.tcp_emulation.specs.declared.segment.Side.TheVariants.{Client}
use Rattle.tcp_emulation.specs.Ends.{are_over as are_over}
use Rattle.flow_socket.specs.Emulation.{Emulation, fresh_emulation as unheard, sent, sent_answer, received, got_of}
use Rattle.app_api.specs.declared.app.Tally.{Tally}
use Rattle.app_api.specs.declared.entry.Entry.{Entry}
use Rattle.app_api.specs.declared.reaction.Reason.{Reason}
use Rattle.app_api.specs.declared.reaction.Verdict.{Verdict}
use Rattle.app_api.specs.declared.reaction.Verdict.TheVariants.{Pass, Drop}
use Rattle.app_api.specs.declared.registration.Reg.{Reg}
use Rattle.app_api.specs.App.{Meaning}
use Rattle.builtin_events.specs.declared.raise.Raise.{Raise}
use Rattle.builtin_events.specs.Raises.{sender_raises, receiver_raises}
use Rattle.forest_versions.specs.State.{ControlState, active as first_active}
use Rattle.connection_core.specs.PacketUnderWay.{PacketUnderWay, raised, phase, bytes_seen}

-- The emulated connection and its packets so far; its private list, and how often it was altered; what the application keeps; the
-- callbacks in order; the dropped packets by their numbers, each with its reason.
pub record History : Type 0 where
  pub emulation : Emulation
  pub count : ℕ
  pub active : List Reg
  pub altered : ℕ
  pub tally : Tally
  pub entries : List Entry
  pub drops : List (ℕ × Reason)

-- a packet's first phase begins where the connection stands, with nothing asked
abbrev pub begin : Emulation → History → PacketUnderWay
begin emulation h = record {
  emulation = emulation;
  active = h.active;
  altered = h.altered;
  tally = h.tally;
  entries = h.entries;
  asked = [];
  drop = None;
}

-- its second goes on from the first
abbrev pub go_on : Emulation → PacketUnderWay → PacketUnderWay
go_on emulation c = record c { emulation = emulation }

-- what the connection has come to once the packet is done
abbrev pub done : ℕ → List (ℕ × Reason) → PacketUnderWay → History
done count drops c = record {
  emulation = c.emulation;
  count = count;
  active = c.active;
  altered = c.altered;
  tally = c.tally;
  entries = c.entries;
  drops = drops;
}

-- a packet that was dropped at its sender never comes to its receiver
abbrev pub received_unless : Option Reason → ℕ → PacketUnderWay → PacketUnderWay → History → History
received_unless (Some reason) number sent received h = done (h.count + 1) (h.drops ++ (number, reason) ∷ []) sent
received_unless None number sent received h = done (h.count + 1) h.drops received

abbrev pub verdict_of : Option Reason → Verdict
verdict_of None = Pass
verdict_of (Some reason) = Drop reason

-- what a verdict adds to the dropped packets
abbrev pub drops_of : Verdict → ℕ → List (ℕ × Reason)
drops_of Pass number = []
drops_of (Drop reason) number = (number, reason) ∷ []

-- ---- under an application and a control state

module _ (app : Meaning) (control : ControlState) where
  -- a connection of no packet, or a packet of no connection before its callbacks
  abbrev pub fresh : History
  fresh = record {
    emulation = unheard control.rbuf control.policy;
    count = 0;
    active = first_active control;
    altered = 0;
    tally = app.fresh;
    entries = [];
    drops = [];
  }

  -- the packet's phase at its sender; `scale` is the window scale that it offers
  unfoldable pub sender_phase : ℕ → Side → Head → Option ℕ → History → PacketUnderWay
  sender_phase number from head scale h =
      phase app control number from
      (sender_raises head from h.count (h.count == 0) (sent_answer from head h.emulation))
      (begin (sent from head scale h.emulation) h)

  -- its phase at its receiver; `count` is its place in the connection
  unfoldable pub receiver_phase : ℕ → Side → Head → List ℕ → ℕ → PacketUnderWay → PacketUnderWay
  receiver_phase number from head payload count c =
      phase app control number from
      (receiver_raises head from count (got_of from head payload c.emulation))
      (go_on (received from head payload c.emulation) c)

  -- one more packet of a connection
  unfoldable pub followed : ℕ → Side → Head → Option ℕ → List ℕ → History → History
  followed number from head scale payload h =
      let sent = sender_phase number from head scale h in
      received_unless sent.drop number sent (receiver_phase number from head payload h.count sent) h

  -- what becomes of this packet
  unfoldable pub verdict : ℕ → Side → Head → Option ℕ → History → Verdict
  verdict number from head scale h = verdict_of (sender_phase number from head scale h).drop

  -- The callbacks of a packet of no connection. It is a connection that heard nothing, so its peeks find nothing, whichever side they
  -- name; and the changes asked come to nothing, since it has no other packet.
  abbrev pub orphan_under_way : ℕ → List Raise → PacketUnderWay
  orphan_under_way number raises =
      raised app control number Client raises (begin (unheard control.rbuf control.policy) fresh)

  unfoldable pub orphan_history : ℕ → List Raise → History
  orphan_history number raises =
      let c = orphan_under_way number raises in done 0 (drops_of (verdict_of c.drop) number) c

  unfoldable pub orphan_verdict : ℕ → List Raise → Verdict
  orphan_verdict number raises = verdict_of (orphan_under_way number raises).drop

-- both ends are in CLOSED or TIME_WAIT
unfoldable pub is_over : History → Bool
is_over h = are_over h.emulation.ends

-- ---- weight

-- a callback weighs 32 and the bytes that it saw
abbrev pub weight_of : List Entry → ℕ
weight_of [] = 0
weight_of (entry ∷ entries) = 32 + bytes_seen entry.seen + weight_of entries
