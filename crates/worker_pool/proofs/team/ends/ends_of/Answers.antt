use Rattle.std.proofs.Common.{◌∙◌, sym, length}
use Rattle.std.proofs.lemmas.List.{map-id}
use Rattle.std.proofs.lemmas.Result.{err_from_is_err_and}
use Rattle.std.proofs.lemmas.Iterator.Adapters.{YieldsList-from_vec}
use Rattle.std.proofs.lemmas.Iterator.Consumers.{YieldsList-turn, YieldsList-end}
use Rattle.worker_pool.proofs.LaneEnds.{all_ended, one_failed}
use Rattle.worker_pool.proofs.team.ends.ends_of.Goals as goal

pub returns-in_err-came-clause-failed : goal.returns-in_err-came-clause-failed
returns-in_err-came-clause-failed g c =
    let p = err_from_is_err_and c.from_residual-in_err-came.result c.from_residual-in_err-came.ensures.1 in
    let at = YieldsList-turn (YieldsList-from_vec {s = c.into_iter-came-iterator.result} c.in_ok-came-items.came-items.items (cc)
    (cc)) c.loop-came.yielded c.loop-came.came-iterator c.loop-came.yielded_by c.next.result c.next.new.self c.in-Some.came c.in-Some.is c.next.ensures.steps in
    rw (p.1, p.2) (one_failed g.L.Recorder c.args.last c.args.workers.items c.in_ok-came-items.came-items.items
    (length c.loop-came.yielded) c.in-Some.came _ c.in_ok-came-items.ensures.come at c.in_err-came.was)

pub returns-clause-ended : goal.returns-clause-ended
returns-clause-ended g c =
    let end = YieldsList-end (YieldsList-from_vec {s = c.into_iter-came-iterator.result} c.in_ok-came-items.came-items.items (cc)
    (cc)) c.loop-came.yielded c.loop-came.came-iterator c.loop-came.yielded_by c.next.result c.next.new.self c.in-None.is c.next.ensures.steps in
    all_ended g.L.Recorder c.args.last c.args.workers.items c.in_ok-came-items.came-items.items c.loop-came.ends.items c.in_ok-came-items.ensures.come
    (sym end.0 ∙ map-id c.loop-came.yielded ∙ c.loop-came.invariant)
