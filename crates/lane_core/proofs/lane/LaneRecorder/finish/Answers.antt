use Rattle.std.proofs.Common.{sym, subst}
use Rattle.lane_core.specs.KeptEnd.{IsKeptEnd}
use Rattle.lane_core.specs.Lane.{IsEnd}
use Rattle.lane_core.specs.Run.{ended_run}
use Rattle.lane_core.proofs.lane.LaneRecorder.finish.Goals as goal

pub returns-clause-ended : goal.returns-clause-ended
returns-clause-ended g c = λ good events r.
    let self = c.args.self in
    let app = g.A.App.meaning self.app in
    let so_far = ended_run app events c.args.greatest in
    let is = c.in_ok-closed.ensures.app in
    let end = c.in_ok-shown.field-0 in
    subst (λ a. IsEnd self.keep a so_far end.records end.versions end.callbacks end.drops) is
    (c.in_ok-shown.ensures self.keep so_far (subst (λ a. IsKeptEnd self.keep a so_far c.in_ok-closed.closed.end) (sym is) (c.in_ok-closed.ensures.kept good events r)))
