use Rattle.std.proofs.Common.{◌∙◌, subst}
use Rattle.lane_core.specs.Lane.{IsRun}
use Rattle.lane_core.proofs.Standing.{command_stands, command_failed}
use Rattle.lane_core.proofs.lane.LaneRecorder.command.Goals as goal

pub returns-in-Err-clause-stands : goal.returns-in-Err-clause-stands
returns-in-Err-clause-stands g c = λ good events r.
    let self = c.args.self.now in
    rw c.fail.ensures.lane
    (command_failed (g.A.App.meaning self.app) self.keep self.records c.fail.new.self.records events c.args.c.now self.failed r (c.fail.ensures.records.next ∙ c.in-Err.ensures.refused.next))

pub returns-in-Ok-clause-stands : goal.returns-in-Ok-clause-stands
returns-in-Ok-clause-stands g c = λ good events r.
    let self = c.args.self.now in
    rw good
    (command_stands (g.A.App.meaning self.app) self.keep self.records c.give.new.self events c.args.c.now
    (subst (λ f. IsRun (g.A.App.meaning self.app) self.keep self.records f events) good r) c.in-Ok.ensures.given)
