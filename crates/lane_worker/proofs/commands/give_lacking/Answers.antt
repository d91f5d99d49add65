use Rattle.std.proofs.Common.{arith}
use Rattle.control_script.specs.Order.{commands_of}
use Rattle.lane_worker.proofs.Taking.{takes_nothing, takes_more}
use Rattle.lane_worker.proofs.commands.give_lacking.Goals as goal

pub loop-alloc-init : goal.loop-alloc-init
loop-alloc-init g c = record {
  good = c.requires.good;
  takes = takes_nothing g.L.Recorder (commands_of c.args.script.now) c.args.lane.now c.requires.good;
  under = c.requires.under;
  before = c.requires.before;
}

pub loop-alloc-preserved : goal.loop-alloc-preserved
loop-alloc-preserved g c =
    let inv = c.loop-alloc.invariant in
    let next = c.give_next.ensures.next in
    let good = c.in_ok-give_next.ensures.ok in
    record {
      good = good;
      takes = (takes_more g.L.Recorder (commands_of c.args.script.now) c.args.lane.now c.loop-alloc.lane c.give_next.new.lane inv.takes inv.good next).0;
      under = next.under good;
      before = let below = c.loop-alloc-test.true in let at = c.version.ensures in let more = next.version good in omega (arith, below, at, more);
    }

pub loop-alloc-smaller : goal.loop-alloc-smaller
loop-alloc-smaller g c =
    let below = c.loop-alloc-test.true in
    let at = c.version.ensures in
    let more = c.give_next.ensures.next.version c.in_ok-give_next.ensures.ok in
    omega (arith, below, at, more)

pub returns-in_err-give_next-clause-takes : goal.returns-in_err-give_next-clause-takes
returns-in_err-give_next-clause-takes g c =
    let inv = c.loop-alloc.invariant in
    (takes_more g.L.Recorder (commands_of c.args.script.now) c.args.lane.now c.loop-alloc.lane c.give_next.new.lane inv.takes inv.good c.give_next.ensures.next).0
