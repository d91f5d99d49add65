use Rattle.std.proofs.Common.{◌<◌, ◌≤◌, length, sym, ◌∙◌}
use Rattle.std.proofs.Common.{arith}
use Rattle.std.proofs.lemmas.Grind.{common_steps}
use Rattle.lane_core.specs.Steps.{taking}
use Rattle.lane_core.proofs.EndOfRun.{front_more, front_is_all, front_is_heavy}
use Rattle.lane_core.proofs.Live.{leaves_same, leaves_on}
use Rattle.lane_core.proofs.records.Records.end_each.Goals as goal

pub loop-place-init : goal.loop-place-init
loop-place-init g c = record {
  ends = λ control_at pasts tells now stands. stands;
  left = leaves_same c.args.self.now;
}

pub loop-place-preserved : goal.loop-place-preserved
loop-place-preserved g c =
    let t = taking g.A.App.meaning c.args.terms.now in
    let mid = c.loop-place.self in
    let inv = c.loop-place.invariant in
    let i = c.loop-place.place in
    let low : i < length mid.list.items = let test = c.loop-place-test.true in let end = c.len-place-end.ensures in let len = inv.left.places in let ok = mid.list.ok.0 in grind (arith, common_steps) in
    record {
      ends = front_more t c.args.self.now mid c.end_one.new.self i inv.ends inv.left.master low c.in_ok-end_one.ensures.ends;
      left = leaves_on c.args.self.now mid c.end_one.new.self inv.left c.end_one.ensures.left;
    }

pub returns-then-is_too_heavy-clause-heavy : goal.returns-then-is_too_heavy-clause-heavy
returns-then-is_too_heavy-clause-heavy g c = λ is.
    let t = taking g.A.App.meaning c.args.terms.now in
    let mid = c.loop-place.self in
    let inv = c.loop-place.invariant in
    let i = c.loop-place.place in
    let low : i < length mid.list.items = let test = c.loop-place-test.true in let end = c.len-place-end.ensures in let len = inv.left.places in let ok = mid.list.ok.0 in grind (arith, common_steps) in
    front_is_heavy t c.args.self.now c.end_one.new.self _ (front_more t c.args.self.now mid c.end_one.new.self i inv.ends inv.left.master low c.in_ok-end_one.ensures.ends)
    (sym c.is_too_heavy.ensures ∙ c.if-is_too_heavy.true)

pub returns-clause-ends : goal.returns-clause-ends
returns-clause-ends g c =
    let t = taking g.A.App.meaning c.args.terms.now in
    let self = c.args.self.now in
    let i = c.loop-place.place in
    let high : length self.list.items ≤ i = let test = c.loop-place-test.false in let end = c.len-place-end.ensures in let ok = self.list.ok.0 in grind (arith, common_steps) in
    front_is_all t self c.loop-place.self i high c.loop-place.invariant.ends
