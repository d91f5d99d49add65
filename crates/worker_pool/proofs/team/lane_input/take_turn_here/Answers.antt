use Rattle.std.proofs.Common.{subst}
use Rattle.control_script.specs.Order.{commands_of}
use Rattle.worker_pool.specs.declared.team.worker_place.WorkerPlace.{WorkerPlace}
use Rattle.worker_pool.specs.Inputs.{IsInput}
use Rattle.worker_pool.proofs.Inputs.{inline_worked}
use Rattle.worker_pool.proofs.team.lane_input.take_turn_here.Goals as goal

pub returns-in-Inline-clause-input : goal.returns-in-Inline-clause-input
returns-in-Inline-clause-input g c = λ begin packets p.
    let input = c.args.input.now in
    let script = commands_of c.args.context.now.script.now in
    inline_worked g.L.Recorder script begin packets input.packets input.unsent c.in-Inline.worker c.take_turn.new.w
    (subst (λ (place : WorkerPlace g.row.L.Denot). IsInput g.L.Recorder script begin packets (record input { place = place })) c.in-Inline.is p)
    c.take_turn.ensures.worked c.take_turn.ensures.ready
