-- What a frame is as a packet: its class and, for a TCP segment, the header fields and the payload.
use Rattle.std.specs.Prelude.{◌==◌, ◌||◌, not, ℕ, ◌+◌, ◌*◌, Bool, nat_lt, if◌then◌else◌, List, length, slice_index}
use Rattle.packet_views.specs.declared.packet.Class.{Class}
use Rattle.packet_views.specs.declared.packet.Class.TheVariants.{Tcp, Other, Fragment, Cut, Bad}
use Rattle.packet_views.specs.declared.packet.Head.{Head}
use Rattle.packet_views.specs.Frame.{field, carries, ip_start, ip_version, ip_words, total_length, fragment_bits, protocol, ip_end, tcp_start}
use Rattle.packet_views.specs.Tcp.{is_tcp_bad, head_at, payload_at}

-- The tests of the class, in the order in which they are made.

-- not even the fixed part of the IPv4 header was captured
abbrev pub is_ip_header_cut : List ℕ → Bool
is_ip_header_cut frame = nat_lt (length frame) (ip_start frame + 20)

unfoldable pub is_ip_header_bad : List ℕ → Bool
is_ip_header_bad frame =
    not (ip_version frame == 4)
    || nat_lt (ip_words frame) 5
    || nat_lt (total_length frame) (4 * ip_words frame)

unfoldable pub is_fragment : List ℕ → Bool
is_fragment frame = not (fragment_bits frame == 0)

-- less was captured than the IPv4 header says that was sent
abbrev pub is_packet_cut : List ℕ → Bool
is_packet_cut frame = nat_lt (length frame) (ip_end frame)

-- the class by the first test that holds; protocol 6 is TCP
unfoldable pub class_of : List ℕ → Class
class_of frame =
    if not (carries 0x0800 frame) then Other
    else if is_ip_header_cut frame then Cut
    else if is_ip_header_bad frame then Bad
    else if not (protocol frame == 6) then Other
    else if is_fragment frame then Fragment
    else if is_packet_cut frame then Cut
    else if is_tcp_bad (tcp_start frame) (ip_end frame) frame then Bad
    else Tcp

-- the bytes between the TCP header and the end of the IPv4 packet
abbrev pub payload_of : List ℕ → List ℕ
payload_of frame = payload_at (tcp_start frame) (ip_end frame) frame

-- the header fields of a TCP segment
unfoldable pub head_of : List ℕ → Head
head_of frame =
    head_at (tcp_start frame) (ip_end frame) (field (ip_start frame + 12) 4 frame) (field (ip_start frame + 16) 4 frame) (slice_index frame (ip_start frame + 8)) frame

-- a packet as data: a TCP segment with its header fields and its payload, or the class of what is none
pub data Packet : Type 0 where
  Segment : Head → List ℕ → Packet
  NoSegment : Class → Packet

abbrev pub packet_with : Class → List ℕ → Packet
packet_with Tcp frame = Segment (head_of frame) (payload_of frame)
packet_with class frame = NoSegment class

-- what a frame is
unfoldable pub packet_of : List ℕ → Packet
packet_of frame = packet_with (class_of frame) frame
