-- The TCP header (RFC 9293, section 3.1) that begins at a place `tcp` of a frame, in a packet that ends at `end`, of either version of IP.
use Rattle.std.specs.Prelude.{◌||◌, ℕ, ◌+◌, ◌*◌, ◌-◌, ◌/◌, Bool, nat_lt, List, length, slice_index, slice_range}
use Rattle.packet_views.specs.declared.packet.Head.{Head}
use Rattle.packet_views.specs.Frame.{field}

-- its length is given in words of 4 bytes, the data offset
abbrev pub tcp_words : ℕ → List ℕ → ℕ
tcp_words tcp frame = slice_index frame (tcp + 12) / 16

-- where it ends and the payload begins
abbrev pub payload_start : ℕ → List ℕ → ℕ
payload_start tcp frame = tcp + 4 * tcp_words tcp frame

-- the segment has no room for its fixed 20 bytes, or for its length, or the length none for these
unfoldable pub is_tcp_bad : ℕ → ℕ → List ℕ → Bool
is_tcp_bad tcp end frame =
    nat_lt (end - tcp) 20
    || nat_lt (tcp_words tcp frame) 5
    || nat_lt (end - tcp) (4 * tcp_words tcp frame)

-- what stands between its fixed 20 bytes and the payload
abbrev pub options_at : ℕ → List ℕ → List ℕ
options_at tcp frame = slice_range frame (tcp + 20) (payload_start tcp frame)

-- the bytes between it and the end of the packet
abbrev pub payload_at : ℕ → ℕ → List ℕ → List ℕ
payload_at tcp end frame = slice_range frame (payload_start tcp frame) end

-- its fields by their places, with addresses and a time to live of the IP header
unfoldable pub head_at : ℕ → ℕ → ℕ → ℕ → ℕ → List ℕ → Head
head_at tcp end src dst ttl frame = record {
  src = src;
  dst = dst;
  sport = field tcp 2 frame;
  dport = field (tcp + 2) 2 frame;
  seq = field (tcp + 4) 4 frame;
  ack = field (tcp + 8) 4 frame;
  flags = slice_index frame (tcp + 13);
  win = field (tcp + 14) 2 frame;
  len = length (payload_at tcp end frame);
  ttl = ttl;
}
