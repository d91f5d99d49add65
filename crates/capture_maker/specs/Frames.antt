-- The frames of the generated capture, byte by byte: Ethernet, IPv4 and TCP without options, checksums 0.
use Rattle.std.specs.Prelude.{ℕ, ◌+◌, ◌*◌, ◌/◌, ◌%◌, List, [], ◌∷◌, ◌++◌, map}
use Rattle.std.specs.Int.{w16, w32, to_be_bytes}
use Rattle.std.specs.List.{range_with_len}
use Rattle.capture_maker.specs.Table.{byte_of, step_segment}
use Rattle.capture_maker.specs.declared.step.Sender.{Sender}
use Rattle.capture_maker.specs.declared.step.Sender.TheVariants.{Client, Server}
use Rattle.capture_maker.specs.declared.step.Segment.{Segment}
use Rattle.capture_maker.specs.declared.turns.Turn.{Turn}

-- a number in two bytes and in four, the highest first
unfoldable pub two_bytes : ℕ → List ℕ
two_bytes n = to_be_bytes w16 n

unfoldable pub four_bytes : ℕ → List ℕ
four_bytes n = to_be_bytes w32 n

-- the other end
abbrev pub other : Sender → Sender
other Client = Server
other Server = Client

-- the client has the address 10.0.0.1 + c, the server 192.0.2.1
abbrev pub sender_address : Sender → ℕ → ℕ
sender_address Client c = 0x0a000001 + c
sender_address Server c = 0xc0000201

-- ports
abbrev pub source_port : Sender → ℕ → ℕ
source_port Client c = 1024 + c % 60000
source_port Server c = 80

-- the Ethernet header: to 02:00:00:00:00:02 from 02:00:00:00:00:01, or back, of type IPv4
abbrev pub ethernet_header : Sender → List ℕ
ethernet_header Client = 2 ∷ 0 ∷ 0 ∷ 0 ∷ 0 ∷ 2 ∷ 2 ∷ 0 ∷ 0 ∷ 0 ∷ 0 ∷ 1 ∷ 8 ∷ 0 ∷ []
ethernet_header Server = 2 ∷ 0 ∷ 0 ∷ 0 ∷ 0 ∷ 1 ∷ 2 ∷ 0 ∷ 0 ∷ 0 ∷ 0 ∷ 2 ∷ 8 ∷ 0 ∷ []

-- the IPv4 header: version 4, 20 bytes, service 0; total length; identification 0, don't fragment, TTL 64, protocol TCP,
-- checksum 0; source and destination
abbrev pub ipv4_header : ℕ → Segment → List ℕ
ipv4_header c s = 0x45 ∷ 0 ∷ two_bytes (40 + s.count) ++ 0 ∷ 0 ∷ 0x40 ∷ 0 ∷ 64 ∷ 6 ∷ 0 ∷ 0 ∷ four_bytes (sender_address s.sender c) ++ four_bytes (sender_address (other s.sender) c)

-- the TCP header: ports, numbers, 20 bytes, flags, window ffff, checksum 0, urgent 0
abbrev pub tcp_header : ℕ → Segment → List ℕ
tcp_header c s = two_bytes (source_port s.sender c) ++ two_bytes (source_port (other s.sender) c) ++ four_bytes s.seq ++ four_bytes s.ack ++ 0x50 ∷ s.flags ∷ 0xff ∷ 0xff ∷ 0 ∷ 0 ∷ 0 ∷ 0 ∷ []

abbrev pub payload : ℕ → Segment → List ℕ
payload c s = map (byte_of s.sender c) (range_with_len s.first s.count)

-- the frame of a segment
unfoldable pub frame_of : ℕ → Segment → List ℕ
frame_of c s = ethernet_header s.sender ++ ipv4_header c s ++ tcp_header c s ++ payload c s

-- the head of the record of a packet: a thousand packets a second, one a millisecond; length of the frame, twice
unfoldable pub record_head : ℕ → Segment → List ℕ
record_head index s = four_bytes (index / 1000) ++ four_bytes (index % 1000 * 1000) ++ four_bytes (54 + s.count) ++ four_bytes (54 + s.count)

-- the record of a packet
abbrev pub packet_record : ℕ → Turn → List ℕ
packet_record index t = record_head index (step_segment t.step t.connection) ++ frame_of t.connection (step_segment t.step t.connection)
