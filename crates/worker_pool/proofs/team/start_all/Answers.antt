use Rattle.std.proofs.Common.{None, ◌≡◌, ◌∷◌, [], ◌++◌, length, refl, sym, subst, List, ap, ◌∙◌, arith}
use Rattle.std.proofs.lemmas.List.{length-append}
use Rattle.std.specs.List.{AllZip}
use Rattle.lane_rings.specs.declared.ring.RingTx.{RingTx}
use Rattle.lane_rings.specs.declared.items.Batch.{Batch}
use Rattle.control_script.specs.Order.{commands_of}
use Rattle.forest_versions.specs.declared.command.Command.{Command}
use Rattle.lane_worker.specs.Worked.{IsReady}
use Rattle.lane_worker.specs.declared.worker.Worker.{Worker}
use Rattle.worker_pool.specs.declared.team.lane_input.LaneInput.{LaneInput}
use Rattle.worker_pool.specs.Inputs.{IsPlaced}
use Rattle.worker_pool.specs.AtWork.{MayBegin, IsFresh}
use Rattle.worker_pool.proofs.Rows.{AllZip-more, moved, zip_first, zip_others}
use Rattle.worker_pool.proofs.Starting.{all_may_begin, fresh, inputs_of_all}
use Rattle.worker_pool.proofs.team.start_all.Goals as goal

pub take_on-place-requires-clause-ready : goal.take_on-place-requires-clause-ready
take_on-place-requires-clause-ready g c κs within =
    let i = c.loop-stop.invariant in
    let w = c.take_first-w.result in
    let tx = c.take_first-packets.result in
    let may : MayBegin g.L.Recorder (commands_of c.args.script.now) w tx =
    zip_first (MayBegin g.L.Recorder (commands_of c.args.script.now)) w tx c.take_first-w.new.row.items c.loop-stop.workers.items c.take_first-packets.new.row.items c.loop-stop.packets.items
    i.waiting c.take_first-w.ensures.first c.take_first-packets.ensures.first in
    let ready : g.L.Recorder.failed w.lane ≡ None → IsReady g.L.Recorder (g.D.WorkerRunner.commands c.args.context.now) w.lane w.commands =
    λ good. subst (λ (s : List Command). IsReady g.L.Recorder s w.lane w.commands) (sym c.requires.commands) (may.ready good) in
    ready

pub loop-stop-init : goal.loop-stop-init
loop-stop-init g c = record {
  front = [];
  whole = refl;
  fresh = subst (λ (l : List (LaneInput g.row.L.Denot)). AllZip (IsFresh g.L.Recorder (commands_of c.args.script.now)) [] l) (sym c.requires.empty) tt;
  waiting =
      subst (λ (l : List (Worker g.row.L.Denot)). AllZip (MayBegin g.L.Recorder (commands_of c.args.script.now)) l c.from-packets.result.items) (sym c.from-workers.ensures.0)
      (subst (λ (l : List (RingTx Batch)). AllZip (MayBegin g.L.Recorder (commands_of c.args.script.now)) c.args.workers.items l) (sym c.from-packets.ensures.0)
      (all_may_begin g.L.Recorder c.args.script.now c.args.workers.items c.args.packets.items c.requires.team));
  flags = let e = ap length c.from-workers.ensures.0 in let f = c.requires.flags in omega (arith, e, f);
  room = let e = ap length c.from-workers.ensures.0 in let f = ap length c.requires.empty in let h = c.requires.places in omega (arith, e, f, h);
}

pub loop-stop-preserved : goal.loop-stop-preserved
loop-stop-preserved g c =
    let i = c.loop-stop.invariant in
    let w = c.take_first-w.result in
    let tx = c.take_first-packets.result in
    let may : MayBegin g.L.Recorder (commands_of c.args.script.now) w tx =
    zip_first (MayBegin g.L.Recorder (commands_of c.args.script.now)) w tx c.take_first-w.new.row.items c.loop-stop.workers.items c.take_first-packets.new.row.items c.loop-stop.packets.items
    i.waiting c.take_first-w.ensures.first c.take_first-packets.ensures.first in
    let placed : IsPlaced g.L.Recorder (commands_of c.args.script.now) w c.take_on-place.result = c.take_on-place.ensures.placed in
    record {
      front = i.front ++ w ∷ [];
      whole = moved c.from-workers.result.items i.front c.loop-stop.workers.items c.take_first-w.new.row.items w i.whole c.take_first-w.ensures.first;
      fresh = subst (λ (l : List (LaneInput g.row.L.Denot)). AllZip (IsFresh g.L.Recorder (commands_of c.args.script.now)) (i.front ++ w ∷ []) l) (sym c.push_reserved.ensures.items)
          (AllZip-more (IsFresh g.L.Recorder (commands_of c.args.script.now)) i.front c.loop-stop.inputs.items w (record { packets = tx; unsent = c.new.result; place = c.take_on-place.result }) i.fresh
          (fresh g.L.Recorder (commands_of c.args.script.now) w tx c.new.result c.take_on-place.result c.new.ensures may placed));
      waiting = zip_others (MayBegin g.L.Recorder
          (commands_of c.args.script.now)) w tx c.take_first-w.new.row.items c.loop-stop.workers.items c.take_first-packets.new.row.items c.loop-stop.packets.items
          i.waiting c.take_first-w.ensures.first c.take_first-packets.ensures.first;
      flags = let e = ap length c.take_first-w.ensures.first in let f = i.flags in omega (arith, e, f);
      room =
          let e = ap length c.take_first-w.ensures.first in
          let f = ap length c.push_reserved.ensures.items ∙ length-append c.loop-stop.inputs.items (record { packets = tx; unsent = c.new.result; place = c.take_on-place.result } ∷ []) in
          let h = c.push_reserved.ensures.capacity in
          let r = i.room in
          omega (arith, e, f, h, r);
    }

pub returns : goal.returns
returns g c =
    let i = c.loop-stop.invariant in
    record {
      inputs = inputs_of_all g.L.Recorder c.args.script.now c.args.workers.items c.from-workers.result.items i.front c.loop-stop.workers.items c.loop-stop.inputs.items
          c.loop-stop.stop-index (length c.args.stops.now) c.from-workers.ensures.0 i.whole i.fresh i.flags c.loop-stop-test.false;
    }
