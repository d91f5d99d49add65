use Rattle.lane_rings.proofs.Judged.{judged_out, judged_with}
use Rattle.lane_rings.proofs.judging.Judging.take.Goals as goal

pub returns-in_default : goal.returns-in_default
returns-in_default c = λ p rest left.
    let i = c.self.inside in
    judged_out i.bytes.items i.places.items i.answered i.next c.args.self.now c.self.view_is p rest left c.args.verdict c.in_default.is

pub returns : goal.returns
returns c = λ p rest left.
    let i = c.self.inside in
    judged_with i.bytes.items i.places.items i.answered i.next c.args.self.now c.self.view_is p rest left c.args.verdict c.in-Some.verdict c.in-Some.is i.order c.index.result.now c.answered.result c.index.ensures
    c.answered.ensures
