use Rattle.std.proofs.lemmas.Result.{err_from_is_err_and}
use Rattle.forward_dispatch.proofs.Turning.{settles_handed}
use Rattle.forward_dispatch.proofs.dispatch.Dealing.await_place.Goals as goal

pub returns-in_err-settle-clause-settles : goal.returns-in_err-settle-clause-settles
returns-in_err-settle-clause-settles g c =
    let p = err_from_is_err_and c.from_residual.result c.from_residual.ensures.1 in
    rw (p.1, p.2) c.in_err-settle.ensures.settles

pub returns-in_err-flush-clause-settles : goal.returns-in_err-flush-clause-settles
returns-in_err-flush-clause-settles g c =
    settles_handed g.L.Recorder c.args.context.now.script.now c.args.self.now c.settle.new.self (g.O.Sink.taken c.args.out.now) (g.O.Sink.taken c.settle.new.out) _
    c.in_ok-settle.ensures.settles c.the_next_leaves.ensures.some (λ is. absurd (cc)) (g.O.Sink.taken c.flush.new.self) _ c.flush.ensures.bytes

pub returns-then-not-is_at_hand-clause-settles : goal.returns-then-not-is_at_hand-clause-settles
returns-then-not-is_at_hand-clause-settles g c =
    settles_handed g.L.Recorder c.args.context.now.script.now c.args.self.now c.settle.new.self (g.O.Sink.taken c.args.out.now) (g.O.Sink.taken c.settle.new.out) _
    c.in_ok-settle.ensures.settles c.the_next_leaves.ensures.some (λ is. absurd (cc)) (g.O.Sink.taken c.flush.new.self) _ c.flush.ensures.bytes
