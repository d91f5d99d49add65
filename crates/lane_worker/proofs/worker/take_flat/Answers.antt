use Rattle.control_script.specs.Order.{commands_of}
use Rattle.lane_worker.proofs.Composed.{judged_sent}
use Rattle.lane_worker.proofs.worker.take_flat.Goals as goal

pub returns-clause-taken_up : goal.returns-clause-taken_up
returns-clause-taken_up g c =
    judged_sent g.L.Recorder (commands_of c.args.context.now.script.now) c.args.w.now c.judge_batch-answers.new.w c.args.batch c.judge_batch-answers.result c.send_answers.new.answers c.send_answers.new.used
    c.judge_batch-answers.ensures.judged c.send_answers.ensures
