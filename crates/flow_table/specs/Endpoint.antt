-- Endpoints: their order, and the two of a TCP segment.
use Rattle.std.specs.Prelude.{◌==◌, ◌&&◌, ℕ, Bool, false}
use Rattle.std.specs.declared.cmp.Ordering.{Ordering}
use Rattle.std.specs.Ordering.{nat_cmp, ordering_then}
use Rattle.packet_views.specs.declared.packet.Head.{Head}
use Rattle.flow_table.specs.declared.endpoint.Endpoint.{Endpoint}
use Rattle.flow_table.specs.declared.endpoint.Endpoint.TheVariants.{V4, V6}

-- the version of IP
abbrev pub version_of : Endpoint → ℕ
version_of (V4 addr port) = 4
version_of (V6 addr port) = 6

abbrev pub addr_of : Endpoint → ℕ
addr_of (V4 addr port) = addr
addr_of (V6 addr port) = addr

abbrev pub port_of : Endpoint → ℕ
port_of (V4 addr port) = port
port_of (V6 addr port) = port

abbrev pub same_endpoint : Endpoint → Endpoint → Bool
same_endpoint (V4 a p) (V4 b q) = a == b && p == q
same_endpoint (V6 a p) (V6 b q) = a == b && p == q
same_endpoint _ _ = false

-- by version, then by address, then by port
abbrev pub endpoint_cmp : Endpoint → Endpoint → Ordering
endpoint_cmp a b =
    ordering_then (nat_cmp (version_of a) (version_of b))
    (ordering_then (nat_cmp (addr_of a) (addr_of b)) (nat_cmp (port_of a) (port_of b)))

-- who sent a segment
unfoldable pub source_of : Head → Endpoint
source_of head = V4 head.src head.sport

-- to whom it was sent
unfoldable pub destination_of : Head → Endpoint
destination_of head = V4 head.dst head.dport
