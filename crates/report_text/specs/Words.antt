-- The parts of a report's lines. Numbers are decimal without leading zeros.
use Rattle.std.specs.Prelude.{ℕ, false, List, [], ◌∷◌, ◌++◌, codes, slice_index, drop, flat_map}
use Rattle.std.specs.Fmt.{decimal, digits}
use Rattle.std.specs.Int.{w32, w128, to_be_bytes}
use Rattle.std.specs.Net.Addr.{segments_of}
use Rattle.std.specs.Net.Text.{ipv4_text}
use Rattle.std.specs.Option.{unwrap_or}
use Rattle.hex.specs.Hex.{encode_lower}
use Rattle.flow_table.specs.declared.endpoint.Endpoint.{Endpoint}
use Rattle.flow_table.specs.declared.endpoint.Endpoint.TheVariants.{V4, V6}
use Rattle.native_filters.specs.declared.facts.Hook.{Hook}
use Rattle.native_filters.specs.declared.facts.Hook.TheVariants.{Snd, Rcv}
use Rattle.packet_views.specs.declared.packet.Class.{Class}
use Rattle.packet_views.specs.declared.packet.Class.TheVariants.{Tcp, Other, Fragment, Cut, Bad}
use Rattle.app_api.specs.Names.{event_name}
use Rattle.app_api.specs.declared.entry.Seen.{Seen}
use Rattle.app_api.specs.declared.entry.Seen.TheVariants.{Nothing, Next, At}
use Rattle.app_api.specs.declared.reaction.Reason.{Reason}
use Rattle.app_api.specs.declared.reaction.Reason.TheVariants.{Reg, Rule}

abbrev pub class_text : Class → List ℕ
class_text Tcp = codes "tcp"
class_text Other = codes "other"
class_text Fragment = codes "fragment"
class_text Cut = codes "cut"
class_text Bad = codes "bad"

abbrev pub hook_text : Hook → List ℕ
hook_text Snd = codes "snd"
hook_text Rcv = codes "rcv"

-- a built-in event by its name, a user-defined one by its number
unfoldable pub event_text : ℕ → List ℕ
event_text event = unwrap_or (event_name event) (decimal event)

-- the eight groups of 16 bits of an IPv6 address
unfoldable pub groups_of : ℕ → List ℕ
groups_of addr = segments_of (to_be_bytes w128 addr)

-- groups in hexadecimal without leading zeros (RFC 4291, section 2.2, form 1), each behind a colon
abbrev pub groups_text : List ℕ → List ℕ
groups_text [] = []
groups_text (group ∷ groups) = codes ":" ++ (digits 16 false group ++ groups_text groups)

unfoldable pub v6_text : ℕ → ℕ → List ℕ
v6_text addr port =
    codes "[" ++ (digits 16 false (slice_index (groups_of addr) 0) ++ (groups_text (drop 1 (groups_of addr)) ++ (codes "]:" ++ decimal port)))

-- an address and a port
unfoldable pub endpoint_text : Endpoint → List ℕ
endpoint_text (V4 addr port) = ipv4_text (to_be_bytes w32 addr) ++ (codes ":" ++ decimal port)
endpoint_text (V6 addr port) = v6_text addr port

-- two lower-case hexadecimal digits a byte, or a dash for no bytes
abbrev pub bytes_text : List ℕ → List ℕ
bytes_text [] = codes "-"
bytes_text (b ∷ bytes) = encode_lower (b ∷ bytes)

-- a run of kept bytes behind its position
abbrev pub piece_text : ℕ × List ℕ → List ℕ
piece_text piece = codes " " ++ (decimal piece.0 ++ (codes ":" ++ bytes_text piece.1))

-- what a callback saw of the stream: nothing where it had no peek
abbrev pub seen_text : Seen → List ℕ
seen_text Nothing = []
seen_text (Next at missed bytes) = codes " peek " ++ (decimal at ++ (codes " " ++ (decimal missed ++ (codes " " ++ bytes_text bytes))))
seen_text (At off pieces) = codes " at " ++ (decimal off ++ flat_map piece_text pieces)

-- who asked for a drop: a registration or a rule, by its number
abbrev pub reason_text : Reason → List ℕ
reason_text (Reg n) = codes "reg " ++ decimal n
reason_text (Rule n) = codes "rule " ++ decimal n
