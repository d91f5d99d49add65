-- Fields of a captured Ethernet frame, as numbers, by their places. All numbers are in network order, the highest byte first.
use Rattle.std.specs.Prelude.{◌==◌, ◌&&◌, not, nat_lt, length, ℕ, ◌+◌, ◌*◌, ◌-◌, ◌/◌, ◌%◌, ◌^◌, Bool, cond, List, drop, slice_index}
use Rattle.byteorder.specs.Endian.{big_number}

-- the number in `count` bytes from place `at`
abbrev pub field : ℕ → ℕ → List ℕ → ℕ
field at count frame = big_number count (drop at frame)

-- The Ethernet header (IEEE 802.3): two addresses of 6 bytes, then the type. After type 8100 (hex) stands one tag of 4 bytes (IEEE 802.1Q), then the type of what follows.

abbrev pub is_tagged : List ℕ → Bool
is_tagged frame = field 12 2 frame == 0x8100

-- the place of the IP header, where there is one
abbrev pub ip_start : List ℕ → ℕ
ip_start frame = cond (is_tagged frame) 18 14

-- the type of what the frame carries, after a tag if there is one
abbrev pub ether_type : List ℕ → ℕ
ether_type frame = field (ip_start frame - 2) 2 frame

-- the link header is whole, and has this type: IPv4 has 0800 (hex), and IPv6 86dd (RFC 2464, section 3)
unfoldable pub carries : ℕ → List ℕ → Bool
carries kind frame = not (nat_lt (length frame) 14) && not (is_tagged frame && nat_lt (length frame) 18) && ether_type frame == kind

-- The IPv4 header (RFC 791, section 3.1). Its length is given in words of 4 bytes.

abbrev pub ip_version : List ℕ → ℕ
ip_version frame = slice_index frame (ip_start frame) / 16

abbrev pub ip_words : List ℕ → ℕ
ip_words frame = slice_index frame (ip_start frame) % 16

-- the bytes of the whole IPv4 packet, its header with them
abbrev pub total_length : List ℕ → ℕ
total_length frame = field (ip_start frame + 2) 2 frame

-- the More Fragments flag and the fragment offset: the lower 14 bits of their field (bit 14 is Don't Fragment)
abbrev pub fragment_bits : List ℕ → ℕ
fragment_bits frame = field (ip_start frame + 6) 2 frame % 2 ^ 14

abbrev pub protocol : List ℕ → ℕ
protocol frame = slice_index frame (ip_start frame + 9)

-- where the IPv4 packet ends; what the frame holds from there is padding
abbrev pub ip_end : List ℕ → ℕ
ip_end frame = ip_start frame + total_length frame

-- where the TCP header behind the IPv4 header begins
abbrev pub tcp_start : List ℕ → ℕ
tcp_start frame = ip_start frame + 4 * ip_words frame
