use Rattle.std.proofs.Common.{◌<◌, length, set, arith}
use Rattle.worker_pool.specs.declared.team.lane_input.LaneInput.{LaneInput}
use Rattle.worker_pool.specs.Inputs.{batches_taken, HasTakenAll}
use Rattle.worker_pool.proofs.Inputs.{looked_at, same_inputs, one_more, one_more_turn, neither, turned}
use Rattle.worker_pool.proofs.team.lane_input.take_turns.Goals as goal

pub take_turn_here-took-requires : goal.take_turn_here-took-requires
take_turn_here-took-requires g c =
    let given = c.requires.inputs in
    let are = c.loop-lane.invariant.kept given.0 given.1 given.2 in
    let inputs = c.loop-lane.inputs.items in
    let lane = c.loop-lane.lane in
    let below : lane < length inputs = omega (arith, c.len-lane-end.ensures, c.args.inputs.now.ok.0, c.loop-lane-test.true, given.2.count, are.count) in
    record { input = looked_at g.L.Recorder c.args.context.now.script.now given.0 given.1 inputs lane c.index_mut.result.now c.index_mut.ensures.value below are }

pub loop-lane-preserved : goal.loop-lane-preserved
loop-lane-preserved g c =
    let given = c.requires.inputs in
    let inputs = c.loop-lane.inputs.items in
    let lane = c.loop-lane.lane in
    let are = c.loop-lane.invariant.kept given.0 given.1 given.2 in
    let below : lane < length inputs = omega (arith, c.len-lane-end.ensures, c.args.inputs.now.ok.0, c.loop-lane-test.true, given.2.count, are.count) in
    let turn = turned (batches_taken c.args.inputs.now.items) (batches_taken inputs) (batches_taken (set inputs lane c.take_turn_here-took.new.input)) c.loop-lane.took c.take_turn_here-took.result
    (one_more_turn inputs lane c.index_mut.result.now c.take_turn_here-took.new.input _ below c.index_mut.ensures.value c.take_turn_here-took.ensures.took)
    c.loop-lane.invariant.took c.loop-lane.invariant.none in
    record {
      kept = λ begins frames were.
          same_inputs g.L.Recorder c.args.context.now.script.now begins frames inputs lane c.index_mut.result.now c.take_turn_here-took.new.input below c.index_mut.ensures.value c.take_turn_here-took.ensures.input
          (c.loop-lane.invariant.kept begins frames were);
      took = turn.0;
      none = turn.1;
      all = λ is.
          let both = neither c.loop-lane.took c.take_turn_here-took.result is in
          one_more (λ (q : LaneInput g.row.L.Denot). HasTakenAll q.place) inputs lane c.take_turn_here-took.new.input below (c.take_turn_here-took.ensures.all both.1) (c.loop-lane.invariant.all both.0);
    }
