use Rattle.std.proofs.Common.{sym, ◌∙◌}
use Rattle.lane_rings.specs.Places.{lent}
use Rattle.control_script.specs.Order.{commands_of}
use Rattle.lane_worker.proofs.Serving.{not_failed, let_go, skipped}
use Rattle.lane_worker.proofs.worker.take_up.Goals as goal

pub returns-then-has_failed-clause-judged : goal.returns-then-has_failed-clause-judged
returns-then-has_failed-clause-judged g c =
    skipped g.L.Recorder (commands_of c.args.context.now.script.now) c.args.w.now (lent c.args.packet.now) c.take_from.new.ring c.take_from.result c.take_from.ensures.some c.take_from.ensures.none
    (c.has_failed.ensures.0 c.if-has_failed.true)

pub decide_packet-requires-clause-good : goal.decide_packet-requires-clause-good
decide_packet-requires-clause-good g c = not_failed (g.L.Recorder.failed c.args.w.now.lane) c.has_failed.result c.if-has_failed.false c.has_failed.ensures.1

pub returns-then-not-is_fit-clause-judged : goal.returns-then-not-is_fit-clause-judged
returns-then-not-is_fit-clause-judged g c =
    let_go g.L.Recorder (commands_of c.args.context.now.script.now) c.args.w.now (lent c.args.packet.now)
    (not_failed (g.L.Recorder.failed c.args.w.now.lane) c.has_failed.result c.if-has_failed.false c.has_failed.ensures.1)
    (sym c.is_fit.ensures.fits ∙ c.if-not-is_fit.true)
