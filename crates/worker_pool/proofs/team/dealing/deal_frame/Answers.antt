use Rattle.std.proofs.Common.{◌≡◌, ◌∷◌, [], length, sym, ap, subst, ◌∙◌}
use Rattle.std.specs.Prelude.{IfOk}
use Rattle.std.proofs.lemmas.Result.{on_ok_weaker}
use Rattle.ip6_views.specs.Sight.{sight_of, lane_of_sight}
use Rattle.pcap_source.specs.Captured.{Captured}
use Rattle.lane_rings.specs.declared.items.Packet.{Packet}
use Rattle.lane_rings.specs.Places.{lent}
use Rattle.worker_pool.specs.Onward.{Deals}
use Rattle.worker_pool.specs.Sent.{sent_as}
use Rattle.worker_pool.proofs.Inputs.{as_sent}
use Rattle.worker_pool.proofs.team.dealing.deal_frame.Goals as goal

pub returns-clause-dealt : goal.returns-clause-dealt
returns-clause-dealt g c =
    let script = c.args.context.now.script.now in
    let old = c.args.inputs.now.items in
    let new = c.deal_packet.new.inputs.items in
    let index = c.args.index in
    let frame = c.args.frame.now in
    let packet = c.in_frame-packet.result in
    let is : lent packet ≡ sent_as script index frame =
    c.in_frame-packet.ensures ∙ as_sent script index c.floor-floor.result c.ceil-ceil.result frame c.floor-floor.ensures.floor c.ceil-ceil.ensures.ceil in
    let index_is : packet.index ≡ index = ap (λ (p : Packet). p.index) is in
    on_ok_weaker c.deal_packet.result
    (λ (deals : (f : Captured) → lent packet ≡ sent_as script packet.index f → Deals g.L.Recorder script packet.index (f ∷ []) old new).
    subst (λ n. Deals g.L.Recorder script n (frame ∷ []) old new) index_is (deals frame (is ∙ ap (λ n. sent_as script n frame) (sym index_is))))
    c.deal_packet.ensures.dealt

pub returns-clause-lane : goal.returns-clause-lane
returns-clause-lane g c =
    subst (λ bytes. IfOk c.deal_packet.result (λ lane. lane ≡ lane_of_sight (sight_of bytes) (length c.args.inputs.now.items)))
    (ap (λ (p : Packet). p.frame.bytes) c.in_frame-packet.ensures) c.deal_packet.ensures.lane
