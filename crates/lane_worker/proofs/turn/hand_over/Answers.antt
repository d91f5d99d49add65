use Rattle.std.proofs.Common.{◌≡◌, None}
use Rattle.std.proofs.lemmas.Result.{err_from_is_err_and}
use Rattle.lane_rings.specs.Places.{lent}
use Rattle.control_script.specs.Order.{commands_of}
use Rattle.lane_worker.proofs.Turns.{turned_back, turned_on, err_or_ok}
use Rattle.lane_worker.proofs.turn.hand_over.Goals as goal

pub returns-in_err-take_places-clause-turned : goal.returns-in_err-take_places-clause-turned
returns-in_err-take_places-clause-turned g c =
    let p = err_from_is_err_and c.from_residual.result c.from_residual.ensures.1 in
    turned_back g.L.Recorder (commands_of c.args.context.now.script.now) c.args.lane.now c.args.commands.now (lent c.args.packet.now) c.requires.fits c.take_places.new.lane c.take_places.new.commands
    c.take_places.ensures.advanced c.in_err-take_places.field-0.0 c.in_err-take_places.ensures.fails c.from_residual.result (λ v is. err_or_ok c.from_residual.result p.0 v p.1 is)

pub returns-clause-turned : goal.returns-clause-turned
returns-clause-turned g c =
    let good : g.L.Recorder.failed c.take_places.new.lane ≡ None = c.in_ok-take_places.ensures.ok in
    let e = c.packet_at.ensures in
    turned_on g.L.Recorder (commands_of c.args.context.now.script.now) c.args.lane.now c.args.commands.now (lent c.args.packet.now) c.requires.fits c.take_places.new.lane c.packet_at.new.self c.take_places.new.commands
    c.take_places.ensures.advanced good c.in_ok-take_places.ensures.floor c.in_ok-take_places.ensures.ceil c.in_ok-take_places.ensures.known (e.stands good) (e.newest good) e.version
    c.packet_at.result e.ok e.fails e.verdict (e.heavy good)
