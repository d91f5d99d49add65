-- The flags of a TCP segment, in byte 13 of its header (RFC 9293, section 3.1): FIN is 1, SYN 2, RST 4, ACK 16.
use Rattle.std.specs.Prelude.{◌==◌, not, bit_and, Bool}
use Rattle.packet_views.specs.declared.packet.Head.{Head}

-- the sender has no more data
unfoldable pub has_fin : Head → Bool
has_fin head = not (bit_and head.flags 1 == 0)

-- sequence numbers are synchronized
unfoldable pub has_syn : Head → Bool
has_syn head = not (bit_and head.flags 2 == 0)

-- the connection is reset
unfoldable pub has_rst : Head → Bool
has_rst head = not (bit_and head.flags 4 == 0)

-- the acknowledgment number counts
unfoldable pub has_ack : Head → Bool
has_ack head = not (bit_and head.flags 16 == 0)
