use Rattle.std.proofs.Common.{◌++◌, ◌∷◌, [], subst}
use Rattle.control_script.specs.Order.{commands_of}
use Rattle.lane_rings.specs.declared.items.Packet.{Packet}
use Rattle.worker_pool.specs.Inputs.{IsInput}
use Rattle.worker_pool.proofs.team.lane_input.send_own.Goals as goal

pub returns-clause-sent : goal.returns-clause-sent
returns-clause-sent g c = λ begin packets p.
    subst (λ (q : Packet). IsInput g.L.Recorder (commands_of c.args.context.now.script.now) begin (packets ++ q ∷ []) c.send_to.new.input) c.in_ok-own.ensures
    (c.send_to.ensures begin packets p)
