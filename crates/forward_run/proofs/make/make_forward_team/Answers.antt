use Rattle.std.proofs.Common.{false, rules}
use Rattle.std.proofs.lemmas.Result.{IfOk-weaker}
use Rattle.forward_run.proofs.Forwarding.{answering_team, answering_kind}
use Rattle.forward_run.proofs.make.make_forward_team.Goals as goal

pub returns-clause-team : goal.returns-clause-team
returns-clause-team g c =
    answering_team _ _ false c.answering_team_of.result c.args.workers c.requires.some
    (IfOk-weaker c.answering_team_of.result _ _ (λ team begun. begun (g.A.App.meaning c.args.app.now) false (λ made input. search rules)) c.answering_team_of.ensures.begun)
    c.answering_team_of.ensures.count

pub returns-clause-keep : goal.returns-clause-keep
returns-clause-keep g c =
    answering_kind _ (g.A.App.meaning c.args.app.now) false c.answering_team_of.result
    (IfOk-weaker c.answering_team_of.result _ _ (λ team begun. begun (g.A.App.meaning c.args.app.now) false (λ made input. search rules)) c.answering_team_of.ensures.begun)
