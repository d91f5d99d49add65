use Rattle.std.proofs.Common.{◌≡◌, true, refl, sym, subst, ◌∙◌}
use Rattle.app_api.specs.App.{Meaning}
use Rattle.forest_versions.specs.Lawful.{are_lawful}
use Rattle.forest_versions.specs.State.{start}
use Rattle.control_script.specs.Order.{commands_of}
use Rattle.lane_worker.proofs.Rings.{SameRx-trans, SameTx-refl, SameTx-trans}
use Rattle.lane_worker.proofs.Composed.{worked_none, worked_two, worked_looked}
use Rattle.lane_worker.proofs.Beside.{ends_after, looked, all_taken}
use Rattle.lane_worker.proofs.left.work_off.Goals as goal

pub loop-init : goal.loop-init
loop-init g c = record {
  worked = worked_none g.L.Recorder (commands_of c.args.context.now.script.now) c.args.w;
  ready = c.requires.ready;
  ends = c.requires.ends;
  ring = SameTx-refl c.args.packets.now;
  sent = refl;
}

pub work_in-w-requires-clause-lawful : goal.work_in-w-requires-clause-lawful
work_in-w-requires-clause-lawful g c =
    subst (λ (m : Meaning). are_lawful (start m.presets) (commands_of c.args.context.now.script.now) ≡ true) (sym c.loop.invariant.worked.app) c.requires.lawful

pub loop-preserved : goal.loop-preserved
loop-preserved g c =
    let look = worked_looked g.L.Recorder (commands_of c.args.context.now.script.now) c.loop.w c.beside.new.self
    (looked c.loop.w.packets c.beside.new.self c.beside.ensures.ring c.beside.ensures.taken c.beside.ensures.known) in
    let till = worked_two g.L.Recorder (commands_of c.args.context.now.script.now) c.args.w c.loop.w (record c.loop.w { packets = c.beside.new.self }) c.loop.invariant.worked look in
    record {
      worked = worked_two g.L.Recorder (commands_of c.args.context.now.script.now) c.args.w (record c.loop.w { packets = c.beside.new.self }) c.work_in-w.result till c.work_in-w.ensures.worked;
      ready = c.work_in-w.ensures.ready;
      ends = ends_after c.loop.packets c.beside.new.tx c.loop.w.packets c.work_in-w.result.packets c.loop.invariant.ends c.beside.ensures.tx.0
          (SameRx-trans c.loop.w.packets c.beside.new.self c.work_in-w.result.packets c.beside.ensures.ring c.work_in-w.ensures.worked.took_packets.ring);
      ring = SameTx-trans c.args.packets.now c.loop.packets c.beside.new.tx c.loop.invariant.ring c.beside.ensures.tx.0;
      sent = c.beside.ensures.tx.1 ∙ c.loop.invariant.sent;
    }

pub returns-then-beside-eq0-clause-worked : goal.returns-then-beside-eq0-clause-worked
returns-then-beside-eq0-clause-worked g c =
    worked_two g.L.Recorder (commands_of c.args.context.now.script.now) c.args.w c.loop.w (record c.loop.w { packets = c.beside.new.self }) c.loop.invariant.worked
    (worked_looked g.L.Recorder (commands_of c.args.context.now.script.now) c.loop.w c.beside.new.self
    (looked c.loop.w.packets c.beside.new.self c.beside.ensures.ring c.beside.ensures.taken c.beside.ensures.known))

pub returns-then-beside-eq0-clause-ends : goal.returns-then-beside-eq0-clause-ends
returns-then-beside-eq0-clause-ends g c =
    ends_after c.loop.packets c.beside.new.tx c.loop.w.packets c.beside.new.self c.loop.invariant.ends c.beside.ensures.tx.0 c.beside.ensures.ring

pub returns-then-beside-eq0-clause-ring : goal.returns-then-beside-eq0-clause-ring
returns-then-beside-eq0-clause-ring g c = SameTx-trans c.args.packets.now c.loop.packets c.beside.new.tx c.loop.invariant.ring c.beside.ensures.tx.0

pub returns-then-beside-eq0-clause-sent : goal.returns-then-beside-eq0-clause-sent
returns-then-beside-eq0-clause-sent g c = c.beside.ensures.tx.1 ∙ c.loop.invariant.sent

pub returns-then-beside-eq0-clause-all : goal.returns-then-beside-eq0-clause-all
returns-then-beside-eq0-clause-all g c = all_taken c.beside.new.tx c.beside.new.self c.beside.ensures.all (sym c.beside.ensures.left ∙ c.if-beside-eq0.true)
