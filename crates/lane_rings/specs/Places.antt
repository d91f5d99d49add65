-- Not of the headline. Packets whose bytes stand elsewhere, as contracts see them.
use Rattle.std.specs.Prelude.{ℕ, ◌≤◌, List}
use Rattle.std.specs.List.{between}
use Rattle.lane_rings.specs.declared.items.Packet.{Packet}
use Rattle.lane_rings.specs.declared.batch.Place.{Place}
use Rattle.lane_rings.specs.declared.batch.LentPacket.{LentPacket}

-- a packet's bytes stand within so many
pub record IsWithin (count : ℕ) (place : Place) : Type 0 where
  pub order : place.start ≤ place.end
  pub within : place.end ≤ count

-- the packet of a place, whose bytes stand among these
abbrev pub packet_of : List ℕ → Place → Packet
packet_of bytes p = record {
  index = p.index;
  floor = p.floor;
  ceil = p.ceil;
  frame = record { seconds = p.seconds; fraction = p.fraction; original = p.original; head = p.head; bytes = between p.start p.end bytes };
}

-- a packet that is lent, as one of its own
abbrev pub lent : LentPacket → Packet
lent p = record {
  index = p.index;
  floor = p.floor;
  ceil = p.ceil;
  frame = record { seconds = p.seconds; fraction = p.fraction; original = p.original; head = p.head; bytes = p.bytes.now };
}
