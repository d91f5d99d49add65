-- Which lane a packet goes to. Both directions of a connection have the same key, and so the same lane.
use Rattle.std.specs.Prelude.{ℕ, ◌+◌, ◌*◌, ◌/◌, ◌%◌, ◌^◌, bit_xor}
use Rattle.packet_views.specs.Packet.{Packet, Segment, NoSegment}
use Rattle.flow_table.specs.declared.endpoint.Endpoint.{Endpoint}
use Rattle.flow_table.specs.declared.endpoint.Endpoint.TheVariants.{V4, V6}
use Rattle.flow_table.specs.Key.{EndpointPair, key_of_head}

-- an endpoint as one number
abbrev pub endpoint_number : Endpoint → ℕ
endpoint_number (V4 addr port) = addr * 65536 + port
endpoint_number (V6 addr port) = bit_xor (bit_xor (addr / 2 ^ 64) (addr % 2 ^ 64)) port

-- a product of 64 bits, its upper half folded into its lower one
abbrev pub folded : ℕ → ℕ
folded product = bit_xor product (product / 2 ^ 32)

-- the multiplier is 2 ^ 64 over the golden ratio, odd
unfoldable pub mix_of : Endpoint → ℕ
mix_of endpoint = folded (endpoint_number endpoint * 0x9e37_79b9_7f4a_7c15 % 2 ^ 64)

-- the lane of a key, among so many lanes
unfoldable pub lane_of_key : EndpointPair → ℕ → ℕ
lane_of_key key lanes = (mix_of key.0 + mix_of key.1) % 2 ^ 64 % lanes

-- the lane of a packet; what has no key goes to lane 0
abbrev pub lane_of_packet : Packet → ℕ → ℕ
lane_of_packet (Segment head payload) lanes = lane_of_key (key_of_head head) lanes
lane_of_packet (NoSegment class) lanes = 0
