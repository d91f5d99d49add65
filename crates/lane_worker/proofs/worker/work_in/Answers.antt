use Rattle.std.proofs.Common.{◌≡◌, true, sym, subst}
use Rattle.app_api.specs.App.{Meaning}
use Rattle.forest_versions.specs.Lawful.{are_lawful}
use Rattle.forest_versions.specs.State.{start}
use Rattle.control_script.specs.Order.{commands_of}
use Rattle.lane_worker.proofs.Composed.{worked_two, worked_none}
use Rattle.lane_worker.proofs.worker.work_in.Goals as goal

pub loop-init : goal.loop-init
loop-init g c = record { worked = worked_none g.L.Recorder (commands_of c.args.context.now.script.now) c.args.w; ready = c.requires.ready }

pub take_turn-found-requires-clause-lawful : goal.take_turn-found-requires-clause-lawful
take_turn-found-requires-clause-lawful g c =
    subst (λ (m : Meaning). are_lawful (start m.presets) (commands_of c.args.context.now.script.now) ≡ true) (sym c.loop.invariant.worked.app) c.requires.lawful

pub returns-then-not-found-clause-worked : goal.returns-then-not-found-clause-worked
returns-then-not-found-clause-worked g c =
    worked_two g.L.Recorder (commands_of c.args.context.now.script.now) c.args.w c.loop.w c.take_turn-found.new.w c.loop.invariant.worked c.take_turn-found.ensures.worked

pub loop-preserved : goal.loop-preserved
loop-preserved g c = record {
  worked = worked_two g.L.Recorder (commands_of c.args.context.now.script.now) c.args.w c.loop.w c.take_turn-found.new.w c.loop.invariant.worked c.take_turn-found.ensures.worked;
  ready = c.take_turn-found.ensures.ready;
}
