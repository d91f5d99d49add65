-- Not of the headline. Which packets belong to a record, whatever comes of them: a connection is opened by a SYN with neither ACK nor RST while none
-- of its key is open (RFC 9293, section 3.5), and takes each later packet of its key until it has ended. Whether it is over after its packets so far,
-- and whether it has been silent for too long at a later moment, are any functions of its version and these packets.
use Rattle.std.specs.Prelude.{ℕ, Bool, true, false, not, ◌&&◌, ◌||◌, if◌then◌else◌, List, [], ◌∷◌, ◌++◌, map}
use Rattle.flow_table.specs.Key.{EndpointPair}
use Rattle.lane_core.specs.Sight.{Sight, Tcp, Other, Moment, Arrival, key_of_segment}
use Rattle.lane_core.specs.Records.{VersionedPacket, opens, is_between}

-- the two ways in which a connection ends, by its version and its packets
pub record Endings : Type 0 where
  pub is_over : ℕ → List Arrival → Bool
  pub is_silent : ℕ → List Arrival → Moment → Bool

-- a connection or an orphan so far: its version, its first packet, the later ones in order, and whether silence has ended it
pub record Members : Type 0 where
  pub version : ℕ
  pub first : Arrival
  pub later : List Arrival
  pub ended : Bool

-- its name is the number of its first packet
abbrev pub name_of : Members → ℕ
name_of m = m.first.number

abbrev pub packets_of : Members → List Arrival
packets_of m = m.first ∷ m.later

-- a record that a packet begins
abbrev pub begun_by : VersionedPacket → Members
begun_by p = record { version = p.version; first = p.arrival; later = []; ended = false }

-- with one packet more
abbrev pub joined_by : Arrival → Members → Members
joined_by a m = record m { later = m.later ++ a ∷ [] }

-- silent for too long, and for good
abbrev pub ended_by_silence : Members → Members
ended_by_silence m = record m { ended = true }

module _ (endings : Endings) where
  abbrev pub is_shut : Members → Bool
  is_shut m = m.ended || endings.is_over m.version (packets_of m)

  -- an open connection of this key
  abbrev pub is_open_at : EndpointPair → Members → Bool
  is_open_at key m = opens m.first.sight && is_between key m.first.sight && not (is_shut m)

  abbrev pub takes : Sight → Members → Bool
  takes (Tcp segment) m = is_open_at (key_of_segment segment) m
  takes (Other class) m = false

  -- a packet that it would take ends it, where it was silent for too long before
  abbrev pub ended_before : Arrival → Members → Members
  ended_before a m =
      if takes a.sight m && endings.is_silent m.version (packets_of m) a.moment then ended_by_silence m else m

  -- the records as a packet finds them
  abbrev pub found : Arrival → List Members → List Members
  found a ms = map (ended_before a) ms

  -- the packet belongs to the open connection of its key, else it begins a record
  unfoldable pub placed : VersionedPacket → List Members → List Members
  placed p [] = begun_by p ∷ []
  placed p (m ∷ ms) = if takes p.arrival.sight m then joined_by p.arrival m ∷ ms else m ∷ placed p ms

  -- one more packet
  abbrev pub added : VersionedPacket → List Members → List Members
  added p ms = placed p (found p.arrival ms)

  unfoldable pub records_from : List Members → List VersionedPacket → List Members
  records_from ms [] = ms
  records_from ms (p ∷ ps) = records_from (added p ms) ps

  -- the records of packets, in order of their names
  abbrev pub records : List VersionedPacket → List Members
  records ps = records_from [] ps
