-- Which packets make a record. A connection is opened by a SYN with neither ACK nor RST (RFC 9293, section 3.5) while none
-- of its key is open; until it is shut, each packet between its two endpoints belongs to it. Every other packet is an orphan.
-- It is shut once it is over, or once it has ended because it was silent for longer than the limit that is in force for it.
use Rattle.std.specs.Prelude.{ℕ, Bool, true, false, not, ◌&&◌, ◌||◌, if◌then◌else◌, Option, Some, None, List, [], ◌∷◌, map}
use Rattle.packet_views.specs.Flags.{has_syn, has_ack, has_rst}
use Rattle.packet_views.specs.declared.packet.Class.TheVariants as Class
use Rattle.tcp_emulation.specs.declared.segment.Side.{Side}
use Rattle.tcp_emulation.specs.declared.segment.Side.TheVariants.{Client, Server}
use Rattle.flow_table.specs.declared.endpoint.Endpoint.{Endpoint}
use Rattle.flow_table.specs.Endpoint.{same_endpoint}
use Rattle.flow_table.specs.Key.{EndpointPair, same_key}
use Rattle.app_api.specs.declared.reaction.Verdict.{Verdict}
use Rattle.app_api.specs.declared.reaction.Verdict.TheVariants.{Pass}
use Rattle.app_api.specs.App.{Meaning}
use Rattle.app_api.specs.Events.{TIMER}
use Rattle.native_filters.specs.declared.facts.Hook.TheVariants.{Rcv}
use Rattle.native_filters.specs.Facts.{no_facts}
use Rattle.flow_timers.specs.Moments.{is_idle}
use Rattle.builtin_events.specs.declared.raise.Raise.{Raise}
use Rattle.builtin_events.specs.Raises.{orphan_raises, timer_raise}
use Rattle.forest_versions.specs.State.{ControlState}
use Rattle.connection_core.specs.History.{History, fresh, followed, verdict, orphan_history, orphan_verdict, is_over}
use Rattle.connection_core.specs.Silence.{silenced}
use Rattle.lane_core.specs.Sight.{Segment, Sight, Tcp, Other, Moment, Arrival, key_of_segment}

-- a packet with the version of the record that it would start
pub record VersionedPacket : Type 0 where
  pub version : ℕ
  pub arrival : Arrival

-- A connection or an orphan so far: its first packet, whose number is its name, its last one, and whether it has ended by
-- idleness.
pub record RecordSoFar : Type 0 where
  pub first : Arrival
  pub version : ℕ
  pub last : Arrival
  pub ended : Bool
  pub history : History

-- a SYN with neither ACK nor RST
unfoldable pub opens : Sight → Bool
opens (Tcp segment) = has_syn segment.head && not (has_ack segment.head) && not (has_rst segment.head)
opens (Other class) = false

-- a segment between the two endpoints of a key
unfoldable pub is_between : EndpointPair → Sight → Bool
is_between key (Tcp segment) = same_key (key_of_segment segment) key
is_between key (Other class) = false

-- a connection that takes no packet any more
abbrev pub is_shut : RecordSoFar → Bool
is_shut so_far = so_far.ended || is_over so_far.history

-- an open connection of this key
abbrev pub is_open_at : EndpointPair → RecordSoFar → Bool
is_open_at key so_far = opens so_far.first.sight && is_between key so_far.first.sight && not (is_shut so_far)

-- the open connection of a key, where there is one
unfoldable pub open_at : EndpointPair → List RecordSoFar → Option RecordSoFar
open_at key [] = None
open_at key (so_far ∷ others) = if is_open_at key so_far then Some so_far else open_at key others

-- whether a packet belongs to a record that was started before it
abbrev pub belongs_to : Sight → RecordSoFar → Bool
belongs_to (Tcp segment) so_far = is_open_at (key_of_segment segment) so_far
belongs_to (Other class) so_far = false

-- Which end sent a segment of a connection: the client is who sent the segment that opened it. Where both endpoints are equal,
-- every segment is the client's.
abbrev pub side_of : Endpoint → Segment → Side
side_of client segment = if same_endpoint client segment.sender then Client else Server

abbrev pub side_in : Sight → Segment → Side
side_in (Tcp opener) segment = side_of opener.sender segment
side_in (Other class) segment = Server

-- what a packet of no connection raises
abbrev pub orphan_raises_of : Sight → List Raise
orphan_raises_of (Tcp segment) = orphan_raises Class.Tcp (Some segment.head)
orphan_raises_of (Other class) = orphan_raises class None

-- what a connection raises at its end by idleness, which its opener tells, after so many packets
abbrev pub timer_raise_of : Sight → ℕ → Raise
timer_raise_of (Tcp opener) count = timer_raise opener.sender opener.receiver count
timer_raise_of (Other class) count = record { hook = Rcv; event = TIMER; facts = no_facts }

-- whether more time has passed than a limit allows; without a limit none is too much
abbrev pub is_past : Option ℕ → Moment → Moment → Bool
is_past None last now = false
is_past (Some limit) last now = is_idle last now limit

-- ---- one packet, under what is in force for its record

-- one more packet of the connection that a packet opened
unfoldable pub history_after : Meaning → ControlState → Sight → Arrival → History → History
history_after app control opener a h = elim a.sight [
  | Tcp segment ↦ followed app control a.number (side_in opener segment) segment.head segment.scale segment.payload h
  | Other class ↦ h
]

-- the history that a packet starts
abbrev pub first_history : Meaning → ControlState → Arrival → History
first_history app control a =
    if opens a.sight then history_after app control a.sight a (fresh app control)
    else orphan_history app control a.number (orphan_raises_of a.sight)

-- what becomes of a packet of the connection that a packet opened
unfoldable pub verdict_after : Meaning → ControlState → Sight → Arrival → History → Verdict
verdict_after app control opener a h = elim a.sight [
  | Tcp segment ↦ verdict app control a.number (side_in opener segment) segment.head segment.scale h
  | Other class ↦ Pass
]

-- what becomes of a packet that belongs to no record so far
abbrev pub first_verdict : Meaning → ControlState → Arrival → Verdict
first_verdict app control a =
    if opens a.sight then verdict_after app control a.sight a (fresh app control)
    else orphan_verdict app control a.number (orphan_raises_of a.sight)

-- ---- records. What is in force for a record is that of its version: `control_at` gives it.

module _ (app : Meaning) (control_at : ℕ → ControlState) where
  -- the record that a packet starts
  abbrev pub started_by : VersionedPacket → RecordSoFar
  started_by p =
      record { first = p.arrival; version = p.version; last = p.arrival; ended = false; history = first_history app (control_at p.version) p.arrival }

  -- the record with one packet more
  abbrev pub continued_by : Arrival → RecordSoFar → RecordSoFar
  continued_by a so_far =
      record so_far { last = a; history = history_after app (control_at so_far.version) so_far.first.sight a so_far.history }

  -- ---- ends by idleness

  -- whether a moment comes later after its last packet than the limit allows that is in force for it
  abbrev pub is_silent : Moment → RecordSoFar → Bool
  is_silent now so_far = is_past (control_at so_far.version).idle so_far.last.moment now

  -- An end by idleness is for good, whatever packets come. Its callbacks have the number of the last packet.
  abbrev pub ended_by_silence : RecordSoFar → RecordSoFar
  ended_by_silence so_far = record so_far {
    ended = true;
    history = silenced app (control_at so_far.version) so_far.last.number
        (timer_raise_of so_far.first.sight so_far.history.count) so_far.history;
  }

  -- a record before a packet: the open connection of the packet's key may have ended, and no other
  abbrev pub ended_before : VersionedPacket → RecordSoFar → RecordSoFar
  ended_before p so_far =
      if belongs_to p.arrival.sight so_far && is_silent p.arrival.moment so_far then ended_by_silence so_far else so_far

  -- a record at the end, with the greatest moment of all packets, if there is any: each open connection may have ended
  abbrev pub ended_at : Option Moment → RecordSoFar → RecordSoFar
  ended_at None so_far = so_far
  ended_at (Some now) so_far =
      if opens so_far.first.sight && not (is_shut so_far) && is_silent now so_far then ended_by_silence so_far else so_far

  -- ---- packets and records

  -- a packet belongs to the open connection of its key, else it starts a record
  unfoldable pub placed : VersionedPacket → List RecordSoFar → List RecordSoFar
  placed p [] = started_by p ∷ []
  placed p (so_far ∷ others) =
      if belongs_to p.arrival.sight so_far then continued_by p.arrival so_far ∷ others
      else so_far ∷ placed p others

  -- what becomes of it: passed on, or dropped with a reason
  unfoldable pub verdict_among : VersionedPacket → List RecordSoFar → Verdict
  verdict_among p [] = first_verdict app (control_at p.version) p.arrival
  verdict_among p (so_far ∷ others) =
      if belongs_to p.arrival.sight so_far
      then verdict_after app (control_at so_far.version) so_far.first.sight p.arrival so_far.history
      else verdict_among p others

  -- one more packet, once a connection that was silent for too long has ended
  abbrev pub added : VersionedPacket → List RecordSoFar → List RecordSoFar
  added p so_far = placed p (map (ended_before p) so_far)

  abbrev pub verdict_on : VersionedPacket → List RecordSoFar → Verdict
  verdict_on p so_far = verdict_among p (map (ended_before p) so_far)

  unfoldable pub records_from : List RecordSoFar → List VersionedPacket → List RecordSoFar
  records_from so_far [] = so_far
  records_from so_far (p ∷ ps) = records_from (added p so_far) ps

  -- the records of packets, in order of their names
  abbrev pub records : List VersionedPacket → List RecordSoFar
  records ps = records_from [] ps

-- packets with the versions that a rule gives to their numbers
abbrev pub versioned : (ℕ → ℕ) → List Arrival → List VersionedPacket
versioned version arrivals = map (λ a. record { version = version a.number; arrival = a }) arrivals
