use Rattle.std.proofs.Common.{◌∷◌, [], ◌++◌, length, refl, sym, subst, List, All, ap, ◌∙◌, arith}
use Rattle.std.proofs.lemmas.List.{length-append}
use Rattle.std.specs.List.{AllZip}
use Rattle.control_script.specs.Order.{commands_of}
use Rattle.worker_pool.specs.declared.team.lane_input.LaneInput.{LaneInput}
use Rattle.lane_worker.specs.declared.worker.Worker.{Worker}
use Rattle.worker_pool.specs.AtWork.{IsAtWork, IsBack}
use Rattle.worker_pool.proofs.Rows.{AllZip-more, all_first, all_others, moved}
use Rattle.worker_pool.proofs.team.finish.finish_all.Goals as goal

pub loop-input-init : goal.loop-input-init
loop-input-init g c = record {
  front = [];
  whole = refl;
  back = subst (λ (l : List (Worker g.row.L.Denot)). AllZip (IsBack g.L.Recorder (commands_of c.args.context.now.script.now)) [] l) (sym c.requires.empty) tt;
  at_work = subst (λ (l : List (LaneInput g.row.L.Denot)). All (IsAtWork g.L.Recorder (commands_of c.args.context.now.script.now)) l) (sym c.from-inputs.ensures.0) c.requires.at_work;
  room = let e = ap length c.requires.empty in let f = ap length c.from-inputs.ensures.0 in let p = c.requires.places in omega (arith, e, f, p);
}

pub finish_one-requires : goal.finish_one-requires
finish_one-requires g c = record {
  at_work = all_first (IsAtWork g.L.Recorder
      (commands_of c.args.context.now.script.now)) c.in-Some.input c.loop-input.inputs.items c.pop_front.new.self.items c.loop-input.invariant.at_work c.in-Some.ensures.items;
}

pub loop-input-preserved : goal.loop-input-preserved
loop-input-preserved g c = record {
  front = c.loop-input.invariant.front ++ c.in-Some.input ∷ [];
  whole = moved c.from-inputs.result.items c.loop-input.invariant.front c.loop-input.inputs.items c.pop_front.new.self.items c.in-Some.input c.loop-input.invariant.whole c.in-Some.ensures.items;
  back = subst (λ (l : List (Worker g.row.L.Denot)). AllZip (IsBack g.L.Recorder (commands_of c.args.context.now.script.now)) (c.loop-input.invariant.front ++ c.in-Some.input ∷ []) l)
      (sym c.push_reserved.ensures.items)
      (AllZip-more (IsBack g.L.Recorder
      (commands_of c.args.context.now.script.now)) c.loop-input.invariant.front c.loop-input.workers.items c.in-Some.input c.finish_one.result c.loop-input.invariant.back c.finish_one.ensures.back);
  at_work = all_others (IsAtWork g.L.Recorder
      (commands_of c.args.context.now.script.now)) c.in-Some.input c.loop-input.inputs.items c.pop_front.new.self.items c.loop-input.invariant.at_work c.in-Some.ensures.items;
  room =
      let e = ap length c.in-Some.ensures.items in
      let f = ap length c.push_reserved.ensures.items ∙ length-append c.loop-input.workers.items (c.finish_one.result ∷ []) in
      let p = c.loop-input.invariant.room in
      let q = c.push_reserved.ensures.capacity in
      omega (arith, e, f, p, q);
}
