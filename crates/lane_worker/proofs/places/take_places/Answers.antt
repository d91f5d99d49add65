use Rattle.std.proofs.Common.{◌≡◌, None, arith}
use Rattle.control_script.specs.Order.{commands_of}
use Rattle.lane_worker.proofs.Advancing.{advanced_none, advanced_wait, advanced_next}
use Rattle.lane_worker.proofs.places.take_places.Goals as goal

pub loop-init : goal.loop-init
loop-init g c = record {
  good = c.requires.good;
  advanced = advanced_none g.L.Recorder (commands_of c.args.context.now.script.now) c.args.lane.now c.args.commands.now c.requires.good;
  under = c.requires.under;
  ceil = c.requires.before;
}

pub loop-preserved-in-Continue-1 : goal.loop-preserved-in-Continue-1
loop-preserved-in-Continue-1 g c =
    let inv = c.loop.invariant in
    let next = c.give_next.ensures.next in
    let good : g.L.Recorder.failed c.give_next.new.lane ≡ None = c.in_ok-give_next-in-Some-take_from.ensures.ok in
    record {
      good = good;
      advanced = advanced_next g.L.Recorder
          (commands_of c.args.context.now.script.now) c.args.lane.now c.loop.lane c.give_next.new.lane c.args.commands.now c.loop.commands c.take_from.new.ring c.in-Some-take_from.field-0 inv.advanced inv.good
          c.in-Some-take_from.ensures.some next;
      under = next.under good;
      ceil = let below = c.has_all.ensures.no c.if-has_all.false in let v = next.version good in omega (arith, below, v);
    }

pub loop-preserved : goal.loop-preserved
loop-preserved g c =
    let inv = c.loop.invariant in
    record {
      good = inv.good;
      advanced = advanced_wait g.L.Recorder (commands_of c.args.context.now.script.now) c.args.lane.now c.loop.lane c.args.commands.now c.loop.commands c.take_from.new.ring inv.advanced
          (c.take_from.ensures.none c.in-None-take_from.is).0;
      under = inv.under;
      ceil = inv.ceil;
    }

pub returns-then-version-floor-clause-advanced : goal.returns-then-version-floor-clause-advanced
returns-then-version-floor-clause-advanced g c =
    advanced_wait g.L.Recorder (commands_of c.args.context.now.script.now) c.args.lane.now c.loop.lane c.args.commands.now c.loop.commands c.take_from.new.ring c.loop.invariant.advanced
    (c.take_from.ensures.none c.in-None-take_from.is).0

pub returns-in_err-give_next-in-Some-take_from-clause-advanced :
    goal.returns-in_err-give_next-in-Some-take_from-clause-advanced
returns-in_err-give_next-in-Some-take_from-clause-advanced g c =
    let inv = c.loop.invariant in
    advanced_next g.L.Recorder (commands_of c.args.context.now.script.now) c.args.lane.now c.loop.lane c.give_next.new.lane c.args.commands.now c.loop.commands c.take_from.new.ring c.in-Some-take_from.field-0
    inv.advanced inv.good
    c.in-Some-take_from.ensures.some c.give_next.ensures.next
