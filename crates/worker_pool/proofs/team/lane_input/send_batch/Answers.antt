use Rattle.std.proofs.Common.{◌++◌, subst, ◌∙◌}
use Rattle.control_script.specs.Order.{commands_of}
use Rattle.lane_rings.specs.declared.items.Batch.{Batch}
use Rattle.lane_rings.specs.Batch.{packets_of}
use Rattle.worker_pool.specs.Inputs.{IsInput}
use Rattle.worker_pool.proofs.Inputs.{sent_on, sent_none}
use Rattle.worker_pool.proofs.team.lane_input.send_batch.Goals as goal

pub take_turn_here-requires : goal.take_turn_here-requires
take_turn_here-requires g c =
    let script = commands_of c.args.context.now.script.now in
    let input = c.requires.input in
    record {
      input = (
        input.0,
        input.1 ++ packets_of c.loop.batch,
        sent_on g.L.Recorder script input.0 input.1 c.loop.input c.send.new.self c.loop.batch c.in-Ok.ensures.ring c.in-Ok.ensures.ok c.loop.invariant.closed (c.loop.invariant.input input.0 input.1 input.2),
      );
    }

pub returns-in-Ok-clause-input : goal.returns-in-Ok-clause-input
returns-in-Ok-clause-input g c = λ begin packets p.
    let script = commands_of c.args.context.now.script.now in
    c.take_turn_here.ensures.input begin (packets ++ packets_of c.args.batch)
    (subst (λ (b : Batch). IsInput g.L.Recorder script begin (packets ++ packets_of b) (record c.loop.input { packets = c.send.new.self })) c.loop.invariant.same
    (sent_on g.L.Recorder script begin packets c.loop.input c.send.new.self c.loop.batch c.in-Ok.ensures.ring c.in-Ok.ensures.ok c.loop.invariant.closed (c.loop.invariant.input begin packets p)))

pub take_turn_here-took-requires : goal.take_turn_here-took-requires
take_turn_here-took-requires g c =
    let script = commands_of c.args.context.now.script.now in
    let input = c.requires.input in
    record {
      input = (
        input.0,
        input.1,
        sent_none g.L.Recorder script input.0 input.1 c.loop.input c.send.new.self c.in-Err.ensures.ring c.in-Err.ensures.full.1 (c.loop.invariant.input input.0 input.1 input.2),
      );
    }

pub loop-preserved : goal.loop-preserved
loop-preserved g c =
    let script = commands_of c.args.context.now.script.now in
    record {
      same = c.in-Err.ensures.full.0 ∙ c.loop.invariant.same;
      closed = c.take_turn_here-took.ensures.unsent ∙ c.loop.invariant.closed;
      input = λ begin packets p. c.take_turn_here-took.ensures.input begin packets
          (sent_none g.L.Recorder script begin packets c.loop.input c.send.new.self c.in-Err.ensures.ring c.in-Err.ensures.full.1 (c.loop.invariant.input begin packets p));
    }
