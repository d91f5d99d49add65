-- One direction of a connection, as its emulated receiver accepts it (RFC 9293, sections 3.4 and 3.10.7.4).
use Rattle.std.specs.Prelude.{ℕ, ◌+◌, ◌-◌, ◌%◌, ◌^◌, ℤ, pos, int_le, int_lt, Bool, false, ◌&&◌, max, List, Option, Some, None, unwrap_or, if◌then◌else◌}
use Rattle.std.specs.Option.{option_map_or}
use Rattle.packet_views.specs.declared.packet.Head.{Head}
use Rattle.reassembly.specs.declared.answers.Policy.{Policy}
use Rattle.reassembly.specs.declared.answers.Placed.{Placed}
use Rattle.reassembly.specs.Position.{distance_of, position_of}
use Rattle.reassembly.specs.Receiver.{Receiver, no_bytes, next_of, wide_of}
use Rattle.reassembly.specs.Offer.{offered}
use Rattle.reassembly.specs.Fin.{is_fin_reached}
use Rattle.flow_socket.specs.declared.answers.Origin.{Origin}
use Rattle.flow_socket.specs.Segment.{with_segment, placed_at, nothing_placed, is_refused}
use Rattle.packet_views.specs.Flags.{has_syn, has_fin, has_rst}

-- what the receiver accepted and offered, where its positions begin (none before the first packet), and how far user code
-- has read it
pub record Direction : Type 0 where
  pub origin : Option Origin
  pub receiver : Receiver
  pub mark : ℕ

-- a direction from which nothing was received
abbrev pub untouched : Direction
untouched = record { origin = None; receiver = no_bytes; mark = 0 }

-- the least position that wasn't accepted, 0 before the first packet
abbrev pub next_in : Direction → ℕ
next_in d = next_of d.receiver.cells

-- a SYN takes one sequence number, before the payload
abbrev pub first_number : Head → ℕ
first_number h = if has_syn h then (h.seq + 1) % 2 ^ 32 else h.seq

-- the origin that the first packet sets: its SYN, or the number before its first byte
abbrev pub origin_from : Head → Origin
origin_from h = record {
  irs = if has_syn h then h.seq else (h.seq + (2 ^ 32 - 1)) % 2 ^ 32;
  knows_syn = has_syn h;
}

-- the origin by which a packet is read: once set, it stays
abbrev pub origin_for : Head → Direction → Origin
origin_for h d = unwrap_or d.origin (origin_from h)

-- how far the packet's first payload byte lies from next, signed
abbrev pub distance_in : Head → Direction → ℤ
distance_in h d = distance_of (next_in d) (origin_for h d).irs (first_number h)

-- the packet begins in the receive window, from before it; at next it does so also where that window is closed
abbrev pub is_in_window : ℕ → Head → Direction → Bool
is_in_window rbuf h d = int_le (pos 0) (distance_in h d) && int_lt (distance_in h d) (pos (max (wide_of d.receiver rbuf) 1))

-- the receiver after the packet: neither payload nor FIN of a packet with RST is read
abbrev pub receiver_after : ℕ → Policy → Head → List ℕ → Direction → Receiver
receiver_after rbuf policy h payload d =
    if has_rst h then d.receiver else with_segment rbuf policy (has_fin h) (distance_in h d) payload d.receiver

-- the direction after the packet
abbrev pub direction_after : ℕ → Policy → Head → List ℕ → Direction → Direction
direction_after rbuf policy h payload d = record d { origin = Some (origin_for h d); receiver = receiver_after rbuf policy h payload d }

-- how the packet's bytes were judged
abbrev pub placed_in : ℕ → Head → List ℕ → Direction → Placed
placed_in rbuf h payload d =
    if has_rst h then nothing_placed else placed_at rbuf (distance_in h d) payload d.receiver

-- its FIN was refused
abbrev pub is_fin_refused : ℕ → Policy → Head → List ℕ → Direction → Bool
is_fin_refused rbuf policy h payload d =
    if has_rst h then false else is_refused rbuf policy (has_fin h) (distance_in h d) payload d.receiver

-- all bytes of the sender and its FIN were accepted
abbrev pub is_finished : Direction → Bool
is_finished d = is_fin_reached (next_in d) d.receiver.fin

-- An acknowledgement number is judged in the direction of the end that it acknowledges, by its position there.

-- it acknowledges a SYN that the capture has
abbrev pub acks_syn_at : ℕ → ℕ → Option Origin → Bool
acks_syn_at ack next None = false
acks_syn_at ack next (Some origin) = origin.knows_syn && int_le (pos 0) (position_of next origin.irs ack)

abbrev pub acks_syn : ℕ → Direction → Bool
acks_syn ack d = acks_syn_at ack (next_in d) d.origin

-- the position lies above that of the FIN, where one is noted
abbrev pub is_past_fin : ℤ → Option ℕ → Bool
is_past_fin q None = false
is_past_fin q (Some fin) = int_lt (pos fin) q

-- it acknowledges the noted FIN
abbrev pub acks_fin_at : ℕ → ℕ → Option Origin → Option ℕ → Bool
acks_fin_at ack next None fin = false
acks_fin_at ack next (Some origin) fin = is_past_fin (position_of next origin.irs ack) fin

abbrev pub acks_fin : ℕ → Direction → Bool
acks_fin ack d = acks_fin_at ack (next_in d) d.origin d.receiver.fin

-- after its receiver offered size positions from the acknowledged one on; it makes no offer before the positions have begun
unfoldable pub offered_in : ℕ → ℕ → Direction → Direction
offered_in ack size d =
    record d { receiver = option_map_or (λ origin. offered d.receiver (position_of (next_in d) origin.irs ack) size) d.origin d.receiver }
