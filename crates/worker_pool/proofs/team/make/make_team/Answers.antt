use Rattle.std.proofs.Common.{true, rules}
use Rattle.std.proofs.lemmas.Result.{IfOk-weaker}
use Rattle.worker_pool.proofs.Making.{team_made, kind_made}
use Rattle.worker_pool.proofs.team.make.make_team.Goals as goal

pub returns-clause-team : goal.returns-clause-team
returns-clause-team g c =
    team_made _ _ true c.team_of.result c.args.job.now.workers c.requires.some
    (IfOk-weaker c.team_of.result _ _ (λ team begun. begun (g.A.App.meaning c.args.job.now.app) true (λ made input. search rules)) c.team_of.ensures.begun)
    c.team_of.ensures.count

pub returns-clause-keep : goal.returns-clause-keep
returns-clause-keep g c =
    kind_made _ (g.A.App.meaning c.args.job.now.app) true c.team_of.result
    (IfOk-weaker c.team_of.result _ _ (λ team begun. begun (g.A.App.meaning c.args.job.now.app) true (λ made input. search rules)) c.team_of.ensures.begun)
