use Rattle.std.proofs.Common.{sym, subst}
use Rattle.std.specs.Prelude.{OnOk}
use Rattle.lane_core.specs.Closing.{EndsAll}
use Rattle.lane_core.proofs.EndOfRun.{none_by, none_limited}
use Rattle.lane_core.proofs.records.Records.end_all.Goals as goal

pub returns-in_default-clause-ends : goal.returns-in_default-clause-ends
returns-in_default-clause-ends g c =
    let app = g.A.App.meaning c.args.app.now in
    let self = c.args.self.now in
    subst (EndsAll app c.args.keep self self) (sym c.in_default.is) (none_by app c.args.keep self)

pub returns-then-not-is_timed-clause-ends : goal.returns-then-not-is_timed-clause-ends
returns-then-not-is_timed-clause-ends g c =
    let app = g.A.App.meaning c.args.app.now in
    let self = c.args.self.now in
    subst (EndsAll app c.args.keep self self) (sym c.in-Some.is) (none_limited app c.args.keep self c.in-Some.moment (c.is_timed.ensures.never c.if-not-is_timed.true))

pub returns-clause-ends : goal.returns-clause-ends
returns-clause-ends g c =
    subst (λ last. OnOk c.end_each.result (EndsAll (g.A.App.meaning c.args.app.now) c.args.keep c.args.self.now c.end_each.new.self last)) (sym c.in-Some.is) c.end_each.ensures.ends
