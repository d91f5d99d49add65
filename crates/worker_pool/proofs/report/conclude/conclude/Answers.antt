use Rattle.std.proofs.Common.{true, length}
use Rattle.std.proofs.lemmas.Result.{err_from_is_err_and}
use Rattle.worker_pool.proofs.Concluding.{not_joined}
use Rattle.worker_pool.proofs.report.conclude.conclude.Goals as goal

pub returns-in_err-joined : goal.returns-in_err-joined
returns-in_err-joined g c =
    let p = err_from_is_err_and c.from_residual.result c.from_residual.ensures.1 in
    rw (p.1, p.2) (record {
      ends = λ app frames begins packets of_frames few last team kept served.
          not_joined app c.args.context.now.script.now (length begins) frames c.args.ran.whole.tail _ (c.in_err-joined.ensures.joined true app frames begins packets few last team kept served);
    })

pub returns : goal.returns
returns g c = record {
  ends = λ app frames begins packets of_frames few last team kept served.
      let run = c.in_ok-joined.ensures.joined true app frames begins packets few last team kept served in
      c.whole_of.ensures.whole app c.args.context.now.script.now (length begins) frames run.0 run.1 run.2 of_frames few;
}
