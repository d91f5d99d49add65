-- The fixed header of an IPv6 packet in a captured Ethernet frame (RFC 8200, section 3), as numbers by their places.
-- It is 40 bytes long. The tag, the version and the place of the header are those of an IPv4 frame.
use Rattle.std.specs.Prelude.{ℕ, ◌+◌, List, slice_index}
use Rattle.packet_views.specs.Frame.{field, ip_start}

-- where the fixed header ends
abbrev pub header_end : List ℕ → ℕ
header_end frame = ip_start frame + 40

-- where the IPv6 packet ends; what the frame holds from there is padding. The payload length counts the bytes behind the fixed
-- header, extension headers among them
abbrev pub ip6_end : List ℕ → ℕ
ip6_end frame = header_end frame + field (ip_start frame + 4) 2 frame

-- the kind of the header behind the fixed one
abbrev pub first_kind : List ℕ → ℕ
first_kind frame = slice_index frame (ip_start frame + 6)
