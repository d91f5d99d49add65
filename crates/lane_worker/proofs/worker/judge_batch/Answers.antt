use Rattle.std.proofs.Common.{◌≡◌, true, sym, subst}
use Rattle.app_api.specs.App.{Meaning}
use Rattle.forest_versions.specs.Lawful.{are_lawful}
use Rattle.forest_versions.specs.State.{start}
use Rattle.control_script.specs.Order.{commands_of}
use Rattle.lane_rings.specs.Places.{lent}
use Rattle.lane_worker.proofs.Judging.{to_none, to_next, to_all, fewer_left}
use Rattle.lane_worker.proofs.worker.judge_batch.Goals as goal

pub loop-w-init : goal.loop-w-init
loop-w-init g c = record {
  judged = to_none g.L.Recorder (commands_of c.args.context.now.script.now) c.args.w.now c.args.batch c.judge-judging.result c.judge-judging.ensures.answers c.judge-judging.ensures.left;
  ready = c.requires.ready;
}

pub take_up-verdict-requires-clause-lawful : goal.take_up-verdict-requires-clause-lawful
take_up-verdict-requires-clause-lawful g c =
    subst (λ (m : Meaning). are_lawful (start m.presets) (commands_of c.args.context.now.script.now) ≡ true) (sym c.loop-w.invariant.judged.judged.app) c.requires.lawful

pub loop-w-preserved : goal.loop-w-preserved
loop-w-preserved g c = record {
  judged = to_next g.L.Recorder (commands_of c.args.context.now.script.now) c.loop-w.judging c.take.new.self (lent c.packet.result) c.take_up-verdict.result c.packet.ensures c.take.ensures
      c.args.w.now c.loop-w.w c.take_up-verdict.new.w c.args.batch c.loop-w.invariant.judged c.take_up-verdict.ensures.judged;
  ready = c.take_up-verdict.ensures.ready;
}

pub loop-w-smaller : goal.loop-w-smaller
loop-w-smaller g c =
    fewer_left g.L.Recorder (commands_of c.args.context.now.script.now) c.loop-w.judging c.take.new.self (lent c.packet.result) c.take_up-verdict.result c.packet.ensures c.take.ensures

pub returns-clause-judged : goal.returns-clause-judged
returns-clause-judged g c =
    to_all g.L.Recorder (commands_of c.args.context.now.script.now) c.args.w.now c.loop-w.w c.args.batch c.loop-w.judging c.finish.result c.loop-w.invariant.judged (c.is_done.ensures.yes c.loop-w-test.false) c.finish.ensures
