-- The answers of the stream, for the receiver from before the segment and then for the one with its payload.
use Rattle.std.proofs.Common.{◌≡◌, ◌+◌, ◌∙◌, ap, subst, sym, w64, to_z, of_z, to_z-of_z}
use Rattle.reassembly.specs.Receiver.{Receiver, next_of, wide_of}
use Rattle.reassembly.specs.View.{StandsFor}
use Rattle.flow_socket.specs.Segment.{with_segment, with_payload, fin_position, fin_edge, is_refused, is_refusal}
use Rattle.flow_socket.proofs.Taking.{payload_stands, end_is, fin_stands, note_is}
use Rattle.flow_socket.proofs.segment.take_segment.Goals as goal

distance_is : (c : goal.After-is_refusal) → to_z w64 (of_z w64 c.args.distance) ≡ c.args.distance
distance_is c = to_z-of_z c.ranges.distance

placed_stands : (c : goal.After-is_refusal) (r : Receiver) → StandsFor c.args.stream.now r → c.args.wide ≡ wide_of r c.args.stream.now.rbuf →
    StandsFor c.place.new.self (with_payload c.args.stream.now.rbuf c.args.policy c.args.distance c.args.payload.now r)
placed_stands c r s wide =
    payload_stands c.place.new.self r c.args.stream.now.rbuf c.args.policy (to_z w64 (of_z w64 c.args.distance)) c.args.distance
    c.args.payload.now (distance_is c) (c.in_ok-placed.ensures.stands r s wide)

end_position : (c : goal.After-is_refusal) (r : Receiver) → StandsFor c.args.stream.now r →
    to_z w64 (of_z w64 c.end_position-end.result) ≡ fin_position c.args.distance c.args.payload.now r
end_position c r s =
    to_z-of_z {w = w64} (record { sfits = c.end_position-end.type_inv })
    ∙ (c.end_position-end.ensures ∙ end_is r c.next-next.result (to_z w64 (of_z w64 c.args.distance)) c.args.distance c.args.payload.now
    (c.next-next.ensures ∙ s.next) (distance_is c))

edge : (c : goal.After-is_refusal) (r : Receiver) → StandsFor c.args.stream.now r → c.args.wide ≡ wide_of r c.args.stream.now.rbuf →
    c.next-next.result + c.from.result ≡ fin_edge c.args.stream.now.rbuf r
edge c r s wide =
    ap (λ n. n + c.from.result) (c.next-next.ensures ∙ s.next) ∙ ap (λ n. next_of r.cells + n) (c.from.ensures ∙ wide)

pub returns-clause-stands : goal.returns-clause-stands
returns-clause-stands c r s wide =
    let rbuf = c.args.stream.now.rbuf in
    subst (λ fin. StandsFor c.note_fin-note.new.self (with_segment rbuf c.args.policy fin c.args.distance c.args.payload.now r))
    (sym c.if-not-has_fin.false)
    (fin_stands c.note_fin-note.new.self r rbuf c.args.policy c.args.distance c.args.payload.now
    (to_z w64 (of_z w64 c.end_position-end.result)) (c.next-next.result + c.from.result) (end_position c r s) (edge c r s wide)
    (c.note_fin-note.ensures.stands _ (placed_stands c r s wide)))

pub returns-clause-refused : goal.returns-clause-refused
returns-clause-refused c r s wide =
    let rbuf = c.args.stream.now.rbuf in
    subst (λ fin. c.is_refusal.result ≡ is_refused rbuf c.args.policy fin c.args.distance c.args.payload.now r)
    (sym c.if-not-has_fin.false)
    (c.is_refusal.ensures ∙ ap is_refusal (note_is r rbuf c.args.policy c.args.distance c.args.payload.now
    (to_z w64 (of_z w64 c.end_position-end.result)) (c.next-next.result + c.from.result) c.note_fin-note.result
    (end_position c r s) (edge c r s wide)
    (c.note_fin-note.ensures.answer _ (placed_stands c r s wide))))
