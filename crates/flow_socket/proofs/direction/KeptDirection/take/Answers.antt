-- The direction after the packet, part by part.
use Rattle.std.proofs.Common.{◌≡◌, ◌∙◌, ap, ap₂, sym, subst, Some, unwrap_or, w64, to_z, of_z, to_z-of_z}
use Rattle.reassembly.specs.Position.{distance_of}
use Rattle.reassembly.specs.Receiver.{wide_with, wide_of}
use Rattle.reassembly.specs.View.{StandsFor}
use Rattle.flow_socket.specs.View.{DirectionStandsFor}
use Rattle.flow_socket.specs.Direction.{Direction, next_in, origin_for, distance_in}
use Rattle.flow_socket.proofs.Taking.{receiver_stands, offer_stays}
use Rattle.flow_socket.proofs.direction.KeptDirection.take.Goals as goal

abbrev Stands : (c : goal.Joined-distance-ge0) → Direction → Type 0
Stands c d = DirectionStandsFor c.args.rbuf c.args.self.now d

origin_is : (c : goal.Joined-distance-ge0) (d : Direction) → Stands c d → c.unwrap_or-origin.result ≡ origin_for c.args.h.now d
origin_is c d s =
    c.unwrap_or-origin.ensures ∙ ap₂ unwrap_or (ap (λ k. k.origin) c.self.view_is ∙ s.origin) c.origin_from.ensures

next_is : (c : goal.Joined-distance-ge0) (d : Direction) → Stands c d → c.next-next.result ≡ next_in d
next_is c d s = c.next-next.ensures ∙ (ap (λ k. k.stream.next) c.self.view_is ∙ s.stream.next)

distance_is : (c : goal.Joined-distance-ge0) (d : Direction) → Stands c d → c.distance-distance.result ≡ distance_in c.args.h.now d
distance_is c d s =
    c.distance-distance.ensures.is
    ∙ (ap (λ n. distance_of n c.unwrap_or-origin.result.irs c.first_number.result) (next_is c d s)
    ∙ (ap (λ o. distance_of (next_in d) o.irs c.first_number.result) (origin_is c d s)
    ∙ ap (distance_of (next_in d) (origin_for c.args.h.now d).irs) c.first_number.ensures))

rbuf_is : (c : goal.Joined-distance-ge0) (d : Direction) → Stands c d → c.self.inside.stream.rbuf ≡ c.args.rbuf
rbuf_is c d s = ap (λ k. k.stream.rbuf) c.self.view_is ∙ s.window

wide_is : (c : goal.Joined-distance-ge0) (d : Direction) → Stands c d → c.wide-wide.result ≡ wide_of d.receiver c.self.inside.stream.rbuf
wide_is c d s =
    c.wide-wide.ensures.value
    ∙ (ap₂ (λ n o. wide_with n o c.args.rbuf) (next_is c d s) (ap (λ k. k.offer) c.self.view_is ∙ s.offer)
    ∙ ap (wide_of d.receiver) (sym (rbuf_is c d s)))

pub returns-clause-stands : goal.returns-clause-stands
returns-clause-stands c d s = record {
  origin = ap Some (origin_is c d s);
  stream =
      receiver_stands c.take_unless_reset.new.stream c.args.rbuf c.args.policy c.args.h.now c.args.payload.now d
      c.self.inside.stream.rbuf (to_z w64 (of_z w64 c.distance-distance.result)) (rbuf_is c d s)
      (to_z-of_z {w = w64} (record { sfits = c.distance-distance.type_inv }) ∙ distance_is c d s)
      (c.in_ok-judged.ensures.stands d.receiver (subst (λ k. StandsFor k.stream d.receiver) (sym c.self.view_is) s.stream) (wide_is c d s));
  offer = ap (λ k. k.offer) c.self.view_is ∙ (s.offer ∙ sym (offer_stays c.args.rbuf c.args.policy c.args.h.now c.args.payload.now d));
  window = c.in_ok-judged.ensures.stream.rbuf ∙ rbuf_is c d s;
  mark = ap (λ k. k.mark) c.self.view_is ∙ s.mark;
}
