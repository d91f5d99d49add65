-- The key of a connection: its two endpoints without an order, the lower one first.
use Rattle.std.specs.Prelude.{◌&&◌, Bool, if◌then◌else◌}
use Rattle.std.specs.Ordering.{is_le}
use Rattle.packet_views.specs.declared.packet.Head.{Head}
use Rattle.flow_table.specs.declared.endpoint.Endpoint.{Endpoint}
use Rattle.flow_table.specs.Endpoint.{same_endpoint, endpoint_cmp, source_of, destination_of}

-- a key as data: the lower endpoint and the higher one
abbrev pub EndpointPair : Type 0
EndpointPair = Endpoint × Endpoint

unfoldable pub same_key : EndpointPair → EndpointPair → Bool
same_key a b = same_endpoint a.0 b.0 && same_endpoint a.1 b.1

-- the key of two endpoints, in either order
unfoldable pub key_between : Endpoint → Endpoint → EndpointPair
key_between a b = if is_le (endpoint_cmp a b) then (a, b) else (b, a)

-- the key of a segment
unfoldable pub key_of_head : Head → EndpointPair
key_of_head head = key_between (source_of head) (destination_of head)
