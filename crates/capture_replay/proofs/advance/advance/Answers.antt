use Rattle.std.proofs.Common.{◌≡◌, ◌∙◌, Err, sym, ap}
use Rattle.std.proofs.lemmas.Result.{err_from_is_err_and, IfOk-weaker, on_ok_weaker}
use Rattle.control_script.specs.Order.{commands_of}
use Rattle.lane_core.specs.Sight.{arrival_at}
use Rattle.lane_worker.specs.Given.{IsUnder}
use Rattle.capture_replay.proofs.Following.{packet_follows, packet_heavy, packet_light, packet_verdict, ready_after}
use Rattle.capture_replay.proofs.advance.advance.Goals as goal

pub returns-in_err-give_commands-clause-failed : goal.returns-in_err-give_commands-clause-failed
returns-in_err-give_commands-clause-failed g c = λ heavy.
    let p = err_from_is_err_and c.from_residual.result c.from_residual.ensures.1 in
    let memory = c.in_err-give_commands.ensures.no_memory in
    absurd (cc (p.1, p.2))

pub returns-in_err-give_commands-clause-heavy : goal.returns-in_err-give_commands-clause-heavy
returns-in_err-give_commands-clause-heavy g c = λ heavy.
    let p = err_from_is_err_and c.from_residual.result c.from_residual.ensures.1 in
    let memory = c.in_err-give_commands.ensures.no_memory in
    absurd (cc (p.1, p.2))

pub returns-in_err-give_commands-clause-ready : goal.returns-in_err-give_commands-clause-ready
returns-in_err-give_commands-clause-ready g c = λ other.
    let p = err_from_is_err_and c.from_residual.result c.from_residual.ensures.1 in
    absurd (other (p.1 ∙ ap (λ e. Err e) (p.2 ∙ c.in_err-give_commands.ensures.no_memory)))

pub returns-clause-follows : goal.returns-clause-follows
returns-clause-follows g c =
    let given = c.in_ok-give_commands.ensures in
    let at = given.version ∙ c.ceiling_of-ceiling.ensures.ceil in
    let here = arrival_at c.args.number c.args.moment c.args.bytes.now in
    on_ok_weaker c.packet_at.result (λ ok ps before.
    packet_follows c.args.script.now c.give_commands.ensures.takes given.ok c.args.number at here c.one_event_more.ensures c.later_commands_change_none.ensures ps before
    c.packet_at.new.self c.packet_at.ensures.version (c.packet_at.ensures.stands given.ok)) c.packet_at.ensures.ok

pub returns-clause-verdict : goal.returns-clause-verdict
returns-clause-verdict g c =
    let given = c.in_ok-give_commands.ensures in
    let at = given.version ∙ c.ceiling_of-ceiling.ensures.ceil in
    let here = arrival_at c.args.number c.args.moment c.args.bytes.now in
    IfOk-weaker c.packet_at.result _ _ (λ verdict is ps before.
    packet_verdict c.args.script.now c.give_commands.ensures.takes given.ok c.args.number at here c.one_event_more.ensures c.later_commands_change_none.ensures ps before
    verdict is) c.packet_at.ensures.verdict

pub returns-clause-light : goal.returns-clause-light
returns-clause-light g c =
    let given = c.in_ok-give_commands.ensures in
    let takes = c.give_commands.ensures.takes in
    let at = given.version ∙ c.ceiling_of-ceiling.ensures.ceil in
    let here = arrival_at c.args.number c.args.moment c.args.bytes.now in
    on_ok_weaker c.packet_at.result (λ light keeps ps before.
    packet_light c.args.script.now takes given.ok c.args.number at here c.one_event_more.ensures c.later_commands_change_none.ensures ps before
    (light (takes.keeps ∙ keeps))) c.packet_at.ensures.light

pub returns-clause-heavy : goal.returns-clause-heavy
returns-clause-heavy g c = λ bad.
    let given = c.in_ok-give_commands.ensures in
    let takes = c.give_commands.ensures.takes in
    let at = given.version ∙ c.ceiling_of-ceiling.ensures.ceil in
    let here = arrival_at c.args.number c.args.moment c.args.bytes.now in
    let heavy = c.packet_at.ensures.heavy given.ok bad in (
      sym takes.keeps ∙ heavy.0,
      λ ps before. packet_heavy c.args.script.now takes given.ok c.args.number at here c.one_event_more.ensures c.later_commands_change_none.ensures ps before heavy.1,
    )

pub returns-clause-ready : goal.returns-clause-ready
returns-clause-ready g c = λ memory.
    let given = c.in_ok-give_commands.ensures in
    let packet = c.packet_at.ensures in
    let new = c.packet_at.new.self in
    let under : IsUnder g.L.Recorder (commands_of c.args.script.now) new = rw (packet.app, packet.version, packet.control) given.under in
    ready_after g.L.Recorder c.args.script.now new c.args.number under (packet.version ∙ given.version ∙ c.ceiling_of-ceiling.ensures.ceil) (packet.newest given.ok)
