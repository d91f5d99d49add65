use denote.Param.Send.{sendable, param_sync}
use Rattle.std.proofs.Common.{sym, subst}
use Rattle.worker_pool.specs.AtWork.{Served}
use Rattle.std.proofs.Crossing.{crosses}
use Rattle.worker_pool.proofs.Crossed.{script_sync, book_sync, flag_sync}
use Rattle.worker_pool.proofs.team.run_lent_feed.Lts.{arg-0-2}
use Rattle.worker_pool.proofs.team.run_lent_feed.Goals as goal

pub run_threads-read-requires-sync-D : goal.run_threads-read-requires-sync-D
run_threads-read-requires-sync-D g c κs within =
    param_sync _ (arg-0-2 g.row.R g.row.L g.row.E g.row.G g.R.laws g.L.laws g.E.laws g.G.laws g.R.copy g.R.Threads g.R.Threads-dict g.R.Wait g.R.Wait-dict g.R.Clone g.R.Clone-dict g.L.Recorder
    g.L.Recorder-dict g.E.Feed g.E.Feed-dict g.G.Gate g.G.Gate-dict g.L.Destruct-dict g.fn-1 g.fn-1-has κs)
    (search (sendable, crosses, script_sync, book_sync, flag_sync) depth 60)

pub returns : goal.returns
returns g c = record {
  served =
      subst (λ (d : g.row.E.Denot). Served g.L.Recorder c.args.context.now.script.now c.args.team.workers.items c.run_threads-read.result.1.items
      (λ frames. g.E.Feed.did c.args.feed.now d c.args.team.workers.items frames c.run_threads-read.result.0))
      (sym (c.feed-1.given.1 (sym c.run_threads-read.ensures.same))) c.run_threads-read.ensures.served;
}
