use Rattle.control_script.specs.Order.{commands_of}
use Rattle.worker_pool.proofs.Returned.{ends_back, lawful_back, back_in, is_back}
use Rattle.worker_pool.proofs.team.finish.finish_one.Goals as goal

pub flush-requires-clause-input : goal.flush-requires-clause-input
flush-requires-clause-input g c =
    let script = commands_of c.args.context.now.script.now in
    let m = c.requires.at_work in
    (m.begin, m.packets, back_in g.L.Recorder script c.args.input c.worker_back.result m.begin m.packets m.input_is (c.worker_back.ensures script m.begin m.input_is.placed))

pub work_off-requires-clause-ends : goal.work_off-requires-clause-ends
work_off-requires-clause-ends g c =
    let script = commands_of c.args.context.now.script.now in
    let m = c.requires.at_work in
    let in_place = back_in g.L.Recorder script c.args.input c.worker_back.result m.begin m.packets m.input_is (c.worker_back.ensures script m.begin m.input_is.placed) in
    let flushed = c.flush.ensures.input m.begin m.packets in_place in
    ends_back g.L.Recorder script m.begin c.worker_back-worker.result m.packets c.flush.new.input flushed (c.worker_back-worker.ensures script m.begin flushed.placed)

pub work_off-requires-clause-ready : goal.work_off-requires-clause-ready
work_off-requires-clause-ready g c =
    let script = commands_of c.args.context.now.script.now in
    let m = c.requires.at_work in
    let in_place = back_in g.L.Recorder script c.args.input c.worker_back.result m.begin m.packets m.input_is (c.worker_back.ensures script m.begin m.input_is.placed) in
    (c.worker_back-worker.ensures script m.begin (c.flush.ensures.input m.begin m.packets in_place).placed).ready

pub work_off-requires-clause-lawful : goal.work_off-requires-clause-lawful
work_off-requires-clause-lawful g c =
    let script = commands_of c.args.context.now.script.now in
    let m = c.requires.at_work in
    let in_place = back_in g.L.Recorder script c.args.input c.worker_back.result m.begin m.packets m.input_is (c.worker_back.ensures script m.begin m.input_is.placed) in
    let flushed = c.flush.ensures.input m.begin m.packets in_place in
    lawful_back g.L.Recorder script m.begin c.worker_back-worker.result m.packets c.flush.new.input flushed (c.worker_back-worker.ensures script m.begin flushed.placed)

pub returns : goal.returns
returns g c =
    let script = commands_of c.args.context.now.script.now in
    record {
      back = record {
        served = λ begin packets is.
            is_back g.L.Recorder script c.flush.new.input c.worker_back-worker.result c.work_off.result c.work_off.new.packets (λ b placed. c.worker_back-worker.ensures script b placed)
            c.work_off.ensures.worked c.work_off.ensures.sent c.work_off.ensures.all c.flush.ensures.closed begin packets
            (c.flush.ensures.input begin packets (back_in g.L.Recorder script c.args.input c.worker_back.result begin packets is (c.worker_back.ensures script begin is.placed)));
      };
    }
