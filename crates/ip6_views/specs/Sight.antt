-- What is seen of a captured frame: its TCP segment, over IPv4 or IPv6, or the class of what is none; and its key and lane.
use Rattle.std.specs.Prelude.{ℕ, ◌+◌, if◌then◌else◌, Option, List, slice_index}
use Rattle.packet_views.specs.declared.packet.Class.{Class}
use Rattle.packet_views.specs.declared.packet.Head.{Head}
use Rattle.packet_views.specs.Frame.{field, carries, ip_start, tcp_start}
use Rattle.packet_views.specs.Tcp.{head_at, payload_at}
use Rattle.packet_views.specs.Packet.{class_of, head_of, payload_of}
use Rattle.packet_views.specs.Options.{scale_at}
use Rattle.flow_table.specs.declared.endpoint.Endpoint.{Endpoint}
use Rattle.flow_table.specs.declared.endpoint.Endpoint.TheVariants.{V6}
use Rattle.flow_table.specs.Endpoint.{source_of, destination_of}
use Rattle.flow_table.specs.Key.{EndpointPair, key_between}
use Rattle.flow_table.specs.Lane.{lane_of_key}
use Rattle.ip6_views.specs.Frame.{ip6_end}
use Rattle.ip6_views.specs.Chain.{Found, TcpAt, Only}
use Rattle.ip6_views.specs.Packet.{found6_in}

-- a TCP segment: its header fields, who sent it to whom, the window scale that it offers, and its payload
pub record Segment : Type 0 where
  pub head : Head
  pub sender : Endpoint
  pub receiver : Endpoint
  pub scale : Option ℕ
  pub payload : List ℕ

pub data Sight : Type 0 where
  Tcp : Segment → Sight
  Other : Class → Sight

-- the segment of a frame that has one over IPv4
abbrev pub segment_of : List ℕ → Segment
segment_of frame = record {
  head = head_of frame;
  sender = source_of (head_of frame);
  receiver = destination_of (head_of frame);
  scale = scale_at (tcp_start frame) frame;
  payload = payload_of frame;
}

abbrev pub sight4_with : Class → List ℕ → Sight
sight4_with Class.Tcp frame = Tcp (segment_of frame)
sight4_with class frame = Other class

-- the segment of a frame over IPv6 whose TCP header begins at a place: the addresses of 32 bits are 0, the time to live is
-- the hop limit in byte 7 of the fixed header, and the addresses stand in its bytes 8 to 23 and 24 to 39
abbrev pub segment6_of : ℕ → List ℕ → Segment
segment6_of tcp frame = record {
  head = head_at tcp (ip6_end frame) 0 0 (slice_index frame (ip_start frame + 7)) frame;
  sender = V6 (field (ip_start frame + 8) 16 frame) (field tcp 2 frame);
  receiver = V6 (field (ip_start frame + 24) 16 frame) (field (tcp + 2) 2 frame);
  scale = scale_at tcp frame;
  payload = payload_at tcp (ip6_end frame) frame;
}

abbrev pub sight6_with : Found → List ℕ → Sight
sight6_with (TcpAt tcp) frame = Tcp (segment6_of tcp frame)
sight6_with (Only class) frame = Other class

-- what is seen of a frame
unfoldable pub sight_of : List ℕ → Sight
sight_of frame =
    if carries 0x86dd frame then sight6_with (found6_in frame) frame
    else sight4_with (class_of frame) frame

-- the key of the connection that a segment belongs to
abbrev pub key_of_segment : Segment → EndpointPair
key_of_segment segment = key_between segment.sender segment.receiver

-- the lane of what is seen, among so many lanes; what has no key goes to lane 0
abbrev pub lane_of_sight : Sight → ℕ → ℕ
lane_of_sight (Tcp segment) lanes = lane_of_key (key_of_segment segment) lanes
lane_of_sight (Other class) lanes = 0
