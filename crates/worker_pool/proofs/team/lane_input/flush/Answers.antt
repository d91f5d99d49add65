use Rattle.std.proofs.Common.{◌++◌, ap, subst, ◌∙◌}
use Rattle.control_script.specs.Order.{commands_of}
use Rattle.lane_rings.specs.Ring.{sent}
use Rattle.lane_rings.specs.Batch.{packets_in}
use Rattle.worker_pool.specs.Inputs.{IsInput}
use Rattle.worker_pool.proofs.Inputs.{closed}
use Rattle.worker_pool.proofs.team.lane_input.flush.Goals as goal

pub send_batch-requires : goal.send_batch-requires
send_batch-requires g c =
    let script = commands_of c.args.context.now.script.now in
    let input = c.args.input.now in
    let given = c.requires.input in
    let empty = c.replace-unsent.ensures.after ∙ c.requires.fresh in
    record {
      input = (given.0, packets_in (sent input.packets), closed g.L.Recorder script given.0 given.1 input c.replace-unsent.new.dest empty given.2);
      closed = empty;
    }

pub returns-clause-input : goal.returns-clause-input
returns-clause-input g c = λ begin packets p.
    let script = commands_of c.args.context.now.script.now in
    let input = c.args.input.now in
    let empty = c.replace-unsent.ensures.after ∙ c.requires.fresh in
    subst (λ l. IsInput g.L.Recorder script begin l c.send_batch.new.input)
    (ap (λ l. packets_in (sent input.packets) ++ l) c.replace-unsent.ensures.value ∙ p.sent_are)
    (c.send_batch.ensures.input begin (packets_in (sent input.packets)) (closed g.L.Recorder script begin packets input c.replace-unsent.new.dest empty p))
