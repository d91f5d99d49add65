use Rattle.std.proofs.lemmas.Result.{err_from_is_err_and}
use Rattle.worker_pool.proofs.LaneEnds.{no_end}
use Rattle.worker_pool.proofs.team.ends.end_of.Goals as goal

pub returns-in_err-finish_kept : goal.returns-in_err-finish_kept
returns-in_err-finish_kept g c =
    let p = err_from_is_err_and c.from_residual.result c.from_residual.ensures.1 in
    rw (p.1, p.2) (record { came = no_end g.L.Recorder c.args.last c.args.worker c.finish_kept.result c.finish_kept.ensures.failed c.finish_kept.ensures.heavy c.in_err-finish_kept.field-0.0 c.in_err-finish_kept.was })
