-- Not of the headline. What the lanes mean, in the words of the subject.
use Rattle.std.specs.Prelude.{◌≡◌, ℕ, List}
use Rattle.packet_views.specs.declared.packet.Class.{Class}
use Rattle.packet_views.specs.declared.packet.Head.{Head}
use Rattle.packet_views.specs.Packet.{Segment, NoSegment}
use Rattle.flow_table.specs.declared.endpoint.Endpoint.{Endpoint}
use Rattle.flow_table.specs.Endpoint.{source_of, destination_of}
use Rattle.flow_table.specs.Key.{key_between}
use Rattle.flow_table.specs.Lane.{lane_of_packet}

-- two endpoints in either order
abbrev pub HasOneKey : Type 0
HasOneKey = (a b : Endpoint) → key_between a b ≡ key_between b a

-- a segment and one that goes the other way have one lane
abbrev pub HasOneLane : Type 0
HasOneLane = (there back : Head) (payload other : List ℕ) (lanes : ℕ)
    → source_of back ≡ destination_of there → destination_of back ≡ source_of there
    → lane_of_packet (Segment there payload) lanes ≡ lane_of_packet (Segment back other) lanes

-- what has no key goes to lane 0
abbrev pub IsWithoutKeyAtLane0 : Type 0
IsWithoutKeyAtLane0 = (class : Class) (lanes : ℕ) → lane_of_packet (NoSegment class) lanes ≡ 0
