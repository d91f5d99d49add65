use Rattle.lane_rings.specs.Places.{lent}
use Rattle.control_script.specs.Order.{commands_of}
use Rattle.lane_worker.proofs.Serving.{under_of, ready_again, answered, unanswered}
use Rattle.lane_worker.proofs.worker.decide_packet.Goals as goal

pub hand_over-requires-clause-under : goal.hand_over-requires-clause-under
hand_over-requires-clause-under g c = under_of g.L.Recorder (commands_of c.args.context.now.script.now) c.args.w.now.lane c.args.w.now.commands c.requires.ready

pub returns-in-Ok-clause-judged : goal.returns-in-Ok-clause-judged
returns-in-Ok-clause-judged g c =
    answered g.L.Recorder (commands_of c.args.context.now.script.now) c.args.w.now (lent c.args.packet.now) c.hand_over.new.lane c.hand_over.new.commands c.requires.good c.hand_over.ensures.app
    c.hand_over.ensures.keeps c.in-Ok.verdict c.in-Ok.ensures.turned

pub returns-in-Ok-clause-ready : goal.returns-in-Ok-clause-ready
returns-in-Ok-clause-ready g c = λ well.
    ready_again g.L.Recorder (commands_of c.args.context.now.script.now) c.args.w.now.lane c.hand_over.new.lane c.args.w.now.commands c.hand_over.new.commands (lent c.args.packet.now) _
    c.requires.ready c.in-Ok.ensures.turned well c.in-Ok.ensures.under

pub returns-in-Err-clause-judged : goal.returns-in-Err-clause-judged
returns-in-Err-clause-judged g c =
    unanswered g.L.Recorder (commands_of c.args.context.now.script.now) c.args.w.now (lent c.args.packet.now) c.hand_over.new.lane c.hand_over.new.commands c.requires.good c.hand_over.ensures.app
    c.hand_over.ensures.keeps c.in-Err.field-0 c.in-Err.ensures.turned
