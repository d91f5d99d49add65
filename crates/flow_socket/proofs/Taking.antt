-- The parts of a segment at a receiver, by equal numbers.
use Rattle.std.proofs.Common.{◌≡◌, ◌∙◌, ap, subst, refl, ℕ, ℤ, pos, ◌+ℤ◌, true, false, length, List, if◌then◌else◌}
use Rattle.packet_views.specs.declared.packet.Head.{Head}
use Rattle.packet_views.specs.Flags.{has_fin, has_rst}
use Rattle.reassembly.specs.declared.answers.Policy.{Policy}
use Rattle.reassembly.specs.declared.answers.FinNote.{FinNote}
use Rattle.reassembly.specs.Receiver.{Receiver, next_of}
use Rattle.reassembly.specs.Segment.{accept}
use Rattle.reassembly.specs.Fin.{noted, note_of}
use Rattle.reassembly.specs.View.{StreamView, StandsFor}
use Rattle.flow_socket.specs.Direction.{Direction, distance_in, receiver_after}
use Rattle.flow_socket.specs.Segment.{with_payload, with_fin, with_segment, note_at, fin_position, fin_edge}

-- the payload, at the same distance
pub payload_stands : (new : StreamView) (r : Receiver) (rbuf : ℕ) (policy : Policy) (at distance : ℤ) (payload : List ℕ) →
    at ≡ distance →
    StandsFor new (accept r (pos (next_of r.cells) +ℤ at) payload policy rbuf) →
    StandsFor new (with_payload rbuf policy distance payload r)
unfolding with_payload
payload_stands new r rbuf policy at distance payload same_distance stands =
    subst (λ z. StandsFor new (accept r (pos (next_of r.cells) +ℤ z) payload policy rbuf)) same_distance stands

-- where the FIN stands
pub end_is : (r : Receiver) (next : ℕ) (at distance : ℤ) (payload : List ℕ) →
    next ≡ next_of r.cells → at ≡ distance → pos next +ℤ at +ℤ pos (length payload) ≡ fin_position distance payload r
end_is r next at distance payload same_next same_distance =
    ap (λ n. pos n +ℤ at +ℤ pos (length payload)) same_next ∙ ap (λ z. pos (next_of r.cells) +ℤ z +ℤ pos (length payload)) same_distance

-- the FIN, at the same place and with the same edge
pub fin_stands : (new : StreamView) (r : Receiver) (rbuf : ℕ) (policy : Policy) (distance : ℤ) (payload : List ℕ) (end : ℤ) (edge : ℕ) →
    end ≡ fin_position distance payload r → edge ≡ fin_edge rbuf r →
    StandsFor new (noted (with_payload rbuf policy distance payload r) end edge) →
    StandsFor new (with_fin rbuf policy distance payload r)
unfolding with_fin
fin_stands new r rbuf policy distance payload end edge same_end same_edge stands =
    let P : ℤ → ℕ → Type 0 = λ z n. StandsFor new (noted (with_payload rbuf policy distance payload r) z n) in
    subst (λ n. P (fin_position distance payload r) n) same_edge (subst (λ z. P z edge) same_end stands)

pub note_is : (r : Receiver) (rbuf : ℕ) (policy : Policy) (distance : ℤ) (payload : List ℕ) (end : ℤ) (edge : ℕ) (note : FinNote) →
    end ≡ fin_position distance payload r → edge ≡ fin_edge rbuf r →
    note ≡ note_of (with_payload rbuf policy distance payload r) end edge →
    note ≡ note_at rbuf policy distance payload r
unfolding note_at
note_is r rbuf policy distance payload end edge note same_end same_edge is =
    let P : ℤ → ℕ → Type 0 = λ z n. note ≡ note_of (with_payload rbuf policy distance payload r) z n in
    subst (λ n. P (fin_position distance payload r) n) same_edge (subst (λ z. P z edge) same_end is)

-- a segment makes no offer for its receiver
pub offer_stays : (rbuf : ℕ) (policy : Policy) (h : Head) (payload : List ℕ) (d : Direction) →
    (receiver_after rbuf policy h payload d).offer ≡ d.receiver.offer
unfolding with_payload with_fin accept noted
offer_stays rbuf policy h payload d =
    elim (has_rst h) as (λ rst. (if rst then d.receiver else with_segment rbuf policy (has_fin h) (distance_in h d) payload d.receiver).offer ≡ d.receiver.offer) [
      | true ↦ refl
      | false ↦ elim (has_fin h) as (λ fin. (with_segment rbuf policy fin (distance_in h d) payload d.receiver).offer ≡ d.receiver.offer) [ true ↦ refl | false ↦ refl ]
    ]

-- the receiver after a packet, at the same distance and with the same buffer
pub receiver_stands : (new : StreamView) (rbuf : ℕ) (policy : Policy) (h : Head) (payload : List ℕ) (d : Direction) (window : ℕ) (at : ℤ) →
    window ≡ rbuf → at ≡ distance_in h d →
    StandsFor new (if has_rst h then d.receiver else with_segment window policy (has_fin h) at payload d.receiver) →
    StandsFor new (receiver_after rbuf policy h payload d)
receiver_stands new rbuf policy h payload d window at same_window same_distance stands =
    let P : ℕ → ℤ → Type 0 = λ n z. StandsFor new (if has_rst h then d.receiver else with_segment n policy (has_fin h) z payload d.receiver) in
    subst (λ n. P n (distance_in h d)) same_window (subst (P window) same_distance stands)
