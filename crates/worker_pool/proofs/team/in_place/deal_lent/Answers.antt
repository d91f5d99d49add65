use Rattle.std.proofs.lemmas.Result.{err_from_is_err_and}
use Rattle.pcap_source.specs.InPlace.{left_behind}
use Rattle.worker_pool.specs.Onward.{deal_at}
use Rattle.worker_pool.proofs.Onward.{passed_on, some_dealt}
use Rattle.worker_pool.proofs.team.in_place.deal_lent.Goals as goal

pub returns-clause-deals : goal.returns-clause-deals
returns-clause-deals g c =
    let left = g.S.Source.left c.args.source.now in
    let walked = c.in_ok-walked.walked in
    let front = c.lend-front.ensures.front in
    passed_on (deal_at c.args.inputs.now.items c.args.capture.now c.args.so_far left) c.deal_front.new.inputs.items c.deal_front.new.capture walked.so_far left
    (g.S.Source.left c.pass_over.new.source) c.lend-front.result.now walked.len front c.in_ok-walked.ensures.within c.in_ok-pass_over.ensures.passed (c.in_ok-walked.ensures.deals left front)

pub returns-in_err-pass_over-clause-stops : goal.returns-in_err-pass_over-clause-stops
returns-in_err-pass_over-clause-stops g c =
    let left = g.S.Source.left c.args.source.now in
    let walked = c.in_ok-walked.walked in
    let p = err_from_is_err_and c.from_residual-in_err-pass_over.result c.from_residual-in_err-pass_over.ensures.1 in
    rw p.1
    (some_dealt (deal_at c.args.inputs.now.items c.args.capture.now c.args.so_far left) (deal_at c.deal_front.new.inputs.items c.deal_front.new.capture walked.so_far (left_behind walked.len left))
    (c.in_ok-walked.ensures.deals left c.lend-front.ensures.front))
