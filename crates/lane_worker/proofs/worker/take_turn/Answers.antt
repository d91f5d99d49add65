use Rattle.control_script.specs.Order.{commands_of}
use Rattle.lane_worker.proofs.Composed.{worked_looked, worked_one}
use Rattle.lane_worker.proofs.worker.take_turn.Goals as goal

pub returns-in-Some-clause-worked : goal.returns-in-Some-clause-worked
returns-in-Some-clause-worked g c =
    worked_one g.L.Recorder (commands_of c.args.context.now.script.now) c.args.w.now c.take_batch.new.w c.take_from.new.ring c.in-Some.batch c.in-Some.ensures.some c.take_batch.ensures.taken_up

pub returns-in-None-clause-worked : goal.returns-in-None-clause-worked
returns-in-None-clause-worked g c =
    worked_looked g.L.Recorder (commands_of c.args.context.now.script.now) c.args.w.now c.take_from.new.ring (c.take_from.ensures.none c.in-None.is).0
