-- Not of the headline. What contracts see of packets that go to a lane together.
use Rattle.std.specs.Prelude.{List, [], ◌∷◌}
use Rattle.std.specs.List.{flat_map}
use Rattle.lane_rings.specs.declared.items.Packet.{Packet}
use Rattle.lane_rings.specs.declared.items.Batch.{Batch}
use Rattle.lane_rings.specs.declared.items.Batch.TheVariants.{Single, Flat}

-- the packets that go to a lane at once
abbrev pub packets_of : Batch → List Packet
packets_of (Single packet) = packet ∷ []
packets_of (Flat packets) = packets

-- the packets of several batches, one behind the other
abbrev pub packets_in : List Batch → List Packet
packets_in batches = flat_map packets_of batches
