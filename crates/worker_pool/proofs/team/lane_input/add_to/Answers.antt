use Rattle.std.proofs.Common.{◌++◌, ◌∷◌, [], List}
use Rattle.std.proofs.lemmas.Result.{on_ok_weaker}
use Rattle.control_script.specs.Order.{commands_of}
use Rattle.lane_rings.specs.declared.items.Packet.{Packet}
use Rattle.lane_rings.specs.Places.{lent}
use Rattle.lane_worker.specs.declared.worker.Worker.{Worker}
use Rattle.worker_pool.specs.Inputs.{IsInput}
use Rattle.worker_pool.proofs.Inputs.{opened_on, same_unsent}
use Rattle.worker_pool.proofs.team.lane_input.add_to.Goals as goal

pub returns-in-Ok-clause-added : goal.returns-in-Ok-clause-added
returns-in-Ok-clause-added g c = λ begin packets p.
    opened_on g.L.Recorder (commands_of c.args.context.now.script.now) begin packets c.args.input.now c.push.new.self (lent c.args.packet.now ∷ []) c.in-Ok.ensures.ok p

pub send_own-requires : goal.send_own-requires
send_own-requires g c =
    let given = c.requires.input in
    record {
      input = (given.0, given.1, same_unsent g.L.Recorder (commands_of c.args.context.now.script.now) given.0 given.1 c.args.input.now c.push.new.self c.in-Err.ensures.unchanged given.2);
    }

pub returns-in-Err-clause-added : goal.returns-in-Err-clause-added
returns-in-Err-clause-added g c =
    let script = commands_of c.args.context.now.script.now in
    let left = record c.args.input.now { unsent = c.push.new.self } in
    on_ok_weaker c.send_own.result
    (λ (sent : (begin : Worker g.row.L.Denot) (packets : List Packet) → IsInput g.L.Recorder script begin packets left
    → IsInput g.L.Recorder script begin (packets ++ lent c.args.packet.now ∷ []) c.send_own.new.input). λ begin packets p.
    sent begin packets (same_unsent g.L.Recorder script begin packets c.args.input.now c.push.new.self c.in-Err.ensures.unchanged p))
    c.send_own.ensures.sent
