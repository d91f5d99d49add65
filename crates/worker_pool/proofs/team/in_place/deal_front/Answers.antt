use Rattle.std.proofs.Common.{◌≡◌, ◌+◌, ◌∷◌, [], Option, None, List, ℕ, drop, sym, ap, subst, ◌∙◌, arith, length-drop}
use Rattle.std.proofs.lemmas.Result.{err_from_is_err_and}
use Rattle.mos_bytes.specs.Reads.{BeginsWith}
use Rattle.pcap_source.specs.Capture.{record_at}
use Rattle.pcap_source.specs.InPlace.{left_behind}
use Rattle.lane_rings.specs.Places.{lent}
use Rattle.worker_pool.specs.Onward.{Deals, DealsOn, WereDealt, deal_at}
use Rattle.worker_pool.specs.Sent.{sent_as}
use Rattle.worker_pool.proofs.Onward.{deals_both, deals_none, deals_one, some_kept}
use Rattle.worker_pool.proofs.Walking.{behind_none, frame_in_place, from_place, next_behind, taken_behind, whole_headed}
use Rattle.worker_pool.proofs.team.in_place.deal_front.Goals as goal

pub loop-whole-init : goal.loop-whole-init
loop-whole-init g c = record {
  within = omega arith;
  may = c.requires.may;
  deals = λ left begins.
      let start = deal_at c.args.inputs.now.items c.args.capture.now c.args.so_far left in
      subst (λ l. DealsOn g.L.Recorder c.args.context.now.script.now start (deal_at c.args.inputs.now.items c.args.capture.now c.args.so_far l)) (sym (behind_none left)) (deals_none start c.requires.may);
}

pub packet_at-packet-requires-clause-headed : goal.packet_at-packet-requires-clause-headed
packet_at-packet-requires-clause-headed g c =
    let at = c.loop-whole in
    let front = c.args.front.now in
    whole_headed at.capture c.next_in.new.self (drop at.len front) c.in-Some.whole (taken_behind at.capture c.next_in.new.self front at.len c.in-Some.whole c.in-Some.ensures.taken)

pub deal_packet-requires-clause-dealt : goal.deal_packet-requires-clause-dealt
deal_packet-requires-clause-dealt g c =
    subst (λ n. WereDealt g.L.Recorder c.args.context.now.script.now n c.loop-whole.inputs.items) (sym c.packet_at-packet.ensures.index) c.loop-whole.invariant.may.dealt

pub returns-in_err-deal_packet-clause-stops : goal.returns-in_err-deal_packet-clause-stops
returns-in_err-deal_packet-clause-stops g c =
    let at = c.loop-whole in
    let p = err_from_is_err_and c.from_residual.result c.from_residual.ensures.1 in
    rw p.1
    (some_kept (deal_at c.args.inputs.now.items c.args.capture.now c.args.so_far None) (deal_at at.inputs.items at.capture at.so_far (left_behind at.len None)) c.deal_packet.new.inputs.items
    (at.invariant.deals None tt) c.in_err-deal_packet.ensures.kept)

pub with_packet-so_far-requires : goal.with_packet-so_far-requires
with_packet-so_far-requires g c = record { few = c.loop-whole.invariant.may.few }

pub loop-whole-preserved : goal.loop-whole-preserved
loop-whole-preserved g c =
    let at = c.loop-whole in
    let inv = at.invariant in
    let script = c.args.context.now.script.now in
    let front = c.args.front.now in
    let whole = c.in-Some.whole in
    let capture = c.next_in.new.self in
    let inputs = c.deal_packet.new.inputs.items in
    let so_far = c.with_packet-so_far.result in
    let taken = taken_behind at.capture capture front at.len whole c.in-Some.ensures.taken in
    let frame = record_at at.capture.order (drop at.len front) in
    let index_is = c.packet_at-packet.ensures.index in
    let packet_is : lent c.packet_at-packet.result ≡ sent_as script c.packet_at-packet.result.index frame =
    c.packet_at-packet.ensures.packet
    ∙ ap (sent_as script at.so_far.packets) (frame_in_place at.capture capture _ whole c.in-Some.ensures.taken ∙ ap (record_at at.capture.order) (from_place at.len front))
    ∙ ap (λ n. sent_as script n frame) (sym index_is) in
    let deals = subst (λ n. Deals g.L.Recorder script n (frame ∷ []) at.inputs.items inputs) index_is (c.in_ok-deal_packet.ensures.dealt frame packet_is) in
    let moment_is = ap (λ s. record { seconds = s; fraction = whole.fraction }) taken.seconds ∙ ap (λ f. record { seconds = frame.seconds; fraction = f }) taken.fraction in
    let on = λ (left : Option (List ℕ)) (begins : BeginsWith left front). deals_both _ _ _ (inv.deals left begins)
    (deals_one (deal_at at.inputs.items at.capture at.so_far (left_behind at.len left)) (deal_at inputs capture so_far (left_behind (at.len + whole.len) left)) frame
    inv.may taken.moves taken.live c.with_packet-so_far.ensures.packets c.deal_packet.ensures.count deals
    (λ before is. c.with_packet-so_far.ensures.last before frame moment_is is)
    (λ rest told. let next = next_behind left front at.len whole.len at.capture capture frame rest begins inv.within taken.gives told in (drop whole.len rest, next.0, next.1))) in
    record {
      within = let inside = taken.within in let was = inv.within in omega (arith, inside, was, length-drop at.len front);
      may = (on None tt).may;
      deals = on;
    }
