use Rattle.std.proofs.Common.{◌≡◌, ◌<◌, [], length, sym, ◌∙◌, arith}
use Rattle.std.proofs.lemmas.List.{get_or_default}
use Rattle.worker_pool.specs.declared.team.lane_input.LaneInput.{LaneInput}
use Rattle.worker_pool.proofs.Inputs.{looked_at, same_inputs, sent_if_due, one_more}
use Rattle.worker_pool.proofs.team.lane_input.flush_all.Goals as goal

pub flush_due-requires : goal.flush_due-requires
flush_due-requires g c =
    let given = c.requires.inputs in
    let are = c.loop-lane.invariant.kept given.0 given.1 given.2 in
    let inputs = c.loop-lane.inputs.items in
    let lane = c.loop-lane.lane in
    let below : lane < length inputs = omega (arith, c.len-lane-end.ensures, c.args.inputs.now.ok.0, c.loop-lane-test.true, given.2.count, are.count) in
    record { input = looked_at g.L.Recorder c.args.context.now.script.now given.0 given.1 inputs lane c.index_mut.result.now c.index_mut.ensures.value below are }

pub loop-lane-preserved : goal.loop-lane-preserved
loop-lane-preserved g c =
    let given = c.requires.inputs in
    let inputs = c.loop-lane.inputs.items in
    let lane = c.loop-lane.lane in
    let are = c.loop-lane.invariant.kept given.0 given.1 given.2 in
    let below : lane < length inputs = omega (arith, c.len-lane-end.ensures, c.args.inputs.now.ok.0, c.loop-lane-test.true, given.2.count, are.count) in
    record {
      kept = λ begins frames were.
          same_inputs g.L.Recorder c.args.context.now.script.now begins frames inputs lane c.index_mut.result.now c.flush_due.new.input below c.index_mut.ensures.value c.flush_due.ensures.kept
          (c.loop-lane.invariant.kept begins frames were);
      sent = one_more (λ (q : LaneInput g.row.L.Denot). q.unsent ≡ []) inputs lane c.flush_due.new.input below
          (sent_if_due c.len-is_due.result c.index.result.now c.index_mut.result.now c.flush_due.new.input c.len-is_due.ensures
          (c.index.ensures ∙ get_or_default inputs lane c.index.result.now c.index_mut.result.now below ∙ sym c.index_mut.ensures.value) c.flush_due.ensures.due c.flush_due.ensures.early)
          c.loop-lane.invariant.sent;
    }
