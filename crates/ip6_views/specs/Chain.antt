-- The chain of extension headers between the fixed header of an IPv6 packet and its TCP header (RFC 8200, section 4).
-- The first byte of each names the kind of the next one; kind 6 is TCP.
use Rattle.std.specs.Prelude.{◌==◌, ◌||◌, ◌&&◌, not, ℕ, zero, suc, ◌+◌, ◌*◌, ◌-◌, ◌/◌, ◌%◌, Bool, nat_lt, if◌then◌else◌, List, slice_index, Option, Some, None}
use Rattle.packet_views.specs.declared.packet.Class.{Class}
use Rattle.packet_views.specs.declared.packet.Class.TheVariants.{Other, Fragment, Bad}
use Rattle.packet_views.specs.Frame.{field}

-- where the TCP header of a packet begins, or the class of a packet without one
pub data Found : Type 0 where
  TcpAt : ℕ → Found
  Only : Class → Found

-- Hop-by-Hop Options, Routing, Fragment, Authentication (RFC 4302) and Destination Options. What follows an
-- Encapsulating Security Payload (50) can't be read, so that it is none here.
abbrev pub is_extension : ℕ → Bool
is_extension kind = kind == 0 || kind == 43 || kind == 44 || kind == 51 || kind == 60

-- The bytes of an extension header: a Fragment header has 8, an Authentication header counts words of 4 bytes and
-- leaves two out (RFC 4302, section 2.2), the others count words of 8 bytes and leave one out.
abbrev pub extension_length : ℕ → ℕ → List ℕ → ℕ
extension_length kind at frame =
    if kind == 44 then 8
    else if kind == 51 then (slice_index frame (at + 1) + 2) * 4
    else (slice_index frame (at + 1) + 1) * 8

-- the field of a Fragment header with the offset in its upper 13 bits and the M flag in its lowest (RFC 8200, section 4.5)
abbrev pub fragment_field : ℕ → List ℕ → ℕ
fragment_field at frame = field (at + 2) 2 frame

-- a Fragment header that splits the packet: more fragments follow, or it isn't the first one
abbrev pub splits : ℕ → ℕ → List ℕ → Bool
splits kind at frame =
    kind == 44 && not (fragment_field at frame / 8 == 0 && fragment_field at frame % 2 == 0)

-- the class of a packet whose extension header, of this kind at this place, ends the walk
unfoldable pub blocked : List ℕ → ℕ → ℕ → ℕ → Option Class
blocked frame end kind at =
    if nat_lt (end - at) 8 then Some Bad
    else if nat_lt end (at + extension_length kind at frame) then Some Bad
    else if splits kind at frame then Some Fragment
    else None

-- what the walk finds from a header of this kind at this place, over so many extension headers at most
unfoldable pub chain : ℕ → List ℕ → ℕ → ℕ → ℕ → Found
chain zero frame end kind at =
    if kind == 6 then TcpAt at
    else if not (is_extension kind) then Only Other
    else Only Bad
chain (suc most) frame end kind at =
    if kind == 6 then TcpAt at
    else if not (is_extension kind) then Only Other
    else elim (blocked frame end kind at) [
      | Some class ↦ Only class
      | None ↦ chain most frame end (slice_index frame at) (at + extension_length kind at frame)
    ]
