use Rattle.std.proofs.Common.{◌≡◌, ◌<◌, length, ap, subst, ◌∙◌}
use Rattle.std.proofs.lemmas.Result.{err_from_is_err_and}
use Rattle.ip6_views.specs.Sight.{sight_of, lane_of_sight}
use Rattle.lane_rings.specs.Places.{lent}
use Rattle.worker_pool.proofs.Inputs.{looked_at, same_inputs}
use Rattle.worker_pool.proofs.Onward.{frame_dealt}
use Rattle.worker_pool.proofs.team.dealing.deal_packet.Goals as goal

pub deal_to-requires : goal.deal_to-requires
deal_to-requires g c =
    let inputs = c.args.inputs.now.items in
    let lane = c.lane_of_frame-lane.result in
    let given = c.requires.dealt in
    let count_is : c.len.result ≡ length inputs = c.len.ensures ∙ c.args.inputs.now.ok.0 in
    let below : lane < length inputs = subst (λ n. lane < n) count_is c.lane_of_frame-lane.ensures.within in
    record { input = looked_at g.L.Recorder c.args.context.now.script.now given.begins given.frames inputs lane c.index_mut.result.now c.index_mut.ensures.value below given.inputs_are }

pub returns-in_err-deal_to-clause-kept : goal.returns-in_err-deal_to-clause-kept
returns-in_err-deal_to-clause-kept g c =
    let inputs = c.args.inputs.now.items in
    let lane = c.lane_of_frame-lane.result in
    let count_is : c.len.result ≡ length inputs = c.len.ensures ∙ c.args.inputs.now.ok.0 in
    let below : lane < length inputs = subst (λ n. lane < n) count_is c.lane_of_frame-lane.ensures.within in
    let p = err_from_is_err_and c.from_residual.result c.from_residual.ensures.1 in
    rw p.1
    (λ begins frames are. same_inputs g.L.Recorder c.args.context.now.script.now begins frames inputs lane c.index_mut.result.now c.deal_to.new.input below c.index_mut.ensures.value c.in_err-deal_to.ensures.kept are)

pub returns-clause-lane : goal.returns-clause-lane
returns-clause-lane g c =
    let count_is : c.len.result ≡ length c.args.inputs.now.items = c.len.ensures ∙ c.args.inputs.now.ok.0 in
    c.lane_of_frame-lane.ensures.lane ∙ ap (lane_of_sight (sight_of c.args.packet.now.bytes.now)) count_is

pub returns-clause-within : goal.returns-clause-within
returns-clause-within g c =
    let count_is : c.len.result ≡ length c.args.inputs.now.items = c.len.ensures ∙ c.args.inputs.now.ok.0 in
    subst (λ n. c.lane_of_frame-lane.result < n) count_is c.lane_of_frame-lane.ensures.within

pub returns-clause-dealt : goal.returns-clause-dealt
returns-clause-dealt g c =
    let inputs = c.args.inputs.now.items in
    let lane = c.lane_of_frame-lane.result in
    let packet = c.args.packet.now in
    let count_is : c.len.result ≡ length inputs = c.len.ensures ∙ c.args.inputs.now.ok.0 in
    let below : lane < length inputs = subst (λ n. lane < n) count_is c.lane_of_frame-lane.ensures.within in
    let own : lane ≡ lane_of_sight (sight_of packet.bytes.now) (length inputs) = c.lane_of_frame-lane.ensures.lane ∙ ap (lane_of_sight (sight_of packet.bytes.now)) count_is in
    frame_dealt g.L.Recorder c.args.context.now.script.now (lent packet) inputs lane c.index_mut.result.now c.deal_to.new.input own below c.index_mut.ensures.value c.in_ok-deal_to.ensures.dealt
