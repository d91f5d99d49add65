use Rattle.std.proofs.Common.{ℕ, ap, refl, subst, ◌∙◌}
use Rattle.connection_core.specs.InForce.{registered}
use Rattle.connection_core.specs.Trees.{active_in, InternsWithin}
use Rattle.connection_core.specs.Standing.{Reached}
use Rattle.connection_core.specs.Calls.{running}
use Rattle.connection_core.specs.History.{receiver_phase, sender_phase, followed, verdict_of}
use Rattle.connection_core.proofs.Changing.{within-on}
use Rattle.connection_core.proofs.Errors.{on_err_always}
use Rattle.connection_core.proofs.Phases.{sender_costs, dropped_stepped, received_stepped, received_costs, steps_to}
use Rattle.connection_core.proofs.flow.Flow.step.Goals as goal

-- it was dropped
pub returns-in-Some-clause-stands : goal.returns-in-Some-clause-stands
unfolding followed
returns-in-Some-clause-stands g c =
    let app = g.A.App.meaning c.args.terms.now.app.now in
    let arrived = c.args.arrived.now in
    steps_to (running g.A.App.meaning c.args.terms.now) arrived _ _ _
    (λ s others h force is.
    let reached = c.in_ok-send.ensures.stands s others h force is in
    let sent = sender_phase app s arrived.number arrived.from arrived.head.now arrived.scale h in
    let stepped = dropped_stepped c.args.terms.now.keep others (registered c.args.terms.now.in_force) (g.F.ForestView.content c.send.new.forests c.send.new.self.forest)
    _ c.send.new.notes c.send.new.ledger (g.F.ForestView.interns c.send.new.forests) arrived.number sent
    (receiver_phase app s arrived.number arrived.from arrived.head.now arrived.payload.now h.count sent) h
    c.send.new.self.count c.in-Some.field-0 c.in-Some.is (c.send.ensures.made_calls.count ∙ is.kept.count) refl reached.under in
    record { stands = stepped.stands; interned = within-on _ _ _ _ _ _ reached.interned stepped.interned })
    c.is_over.ensures
    (λ s others h force is. c.verdict_of-verdict.ensures ∙ ap verdict_of (c.in_ok-send.ensures.stands s others h force is).under.drop)

-- it came to its receiver
pub returns-clause-stands : goal.returns-clause-stands
unfolding followed
returns-clause-stands g c =
    let app = g.A.App.meaning c.args.terms.now.app.now in
    let arrived = c.args.arrived.now in
    steps_to (running g.A.App.meaning c.args.terms.now) arrived _ _ _
    (λ s others h force is.
    let reached = c.in_ok-send.ensures.stands s others h force is in
    let counted = c.send.ensures.made_calls.count ∙ is.kept.count in
    let sent = sender_phase app s arrived.number arrived.from arrived.head.now arrived.scale h in
    let stepped = received_stepped c.args.terms.now.keep others (registered c.args.terms.now.in_force) (g.F.ForestView.content c.receive.new.forests c.receive.new.self.forest)
    c.receive.new.self c.receive.new.notes c.send.new.ledger c.receive.new.ledger (g.F.ForestView.interns c.send.new.forests) (g.F.ForestView.interns c.receive.new.forests) arrived.number sent
    (receiver_phase app s arrived.number arrived.from arrived.head.now arrived.payload.now h.count sent) h
    c.send.new.self.count c.in_default.is reached.under.drop counted c.in_ok-receive.ensures.counted
    (subst (λ n. Reached c.args.terms.now.keep others (active_in (registered c.args.terms.now.in_force)
    (g.F.ForestView.content c.receive.new.forests c.receive.new.self.forest)) c.receive.new.self.socket c.receive.new.notes c.receive.new.ledger
    (g.F.ForestView.interns c.send.new.forests) (g.F.ForestView.interns c.receive.new.forests) sent.altered
    (receiver_phase app s arrived.number arrived.from arrived.head.now arrived.payload.now n sent)) counted
    ((c.in_ok-receive.ensures.stands.makes s force).stands others sent reached.under)) in
    record { stands = stepped.stands; interned = within-on _ _ _ _ _ _ reached.interned stepped.interned })
    c.is_over-2.ensures
    (λ s others h force is. c.verdict_of-verdict.ensures ∙ ap verdict_of (c.in_ok-send.ensures.stands s others h force is).under.drop)

pub returns-in_err-send-clause-failed : goal.returns-in_err-send-clause-failed
returns-in_err-send-clause-failed g c = on_err_always c.from_residual.result (λ s others h force is.
    let arrived = c.args.arrived.now in
    sender_costs (g.A.App.meaning c.args.terms.now.app.now) s (g.F.ForestView.interns c.args.forests.now) (g.F.ForestView.interns c.send.new.forests)
    arrived.number arrived.from arrived.head.now arrived.scale arrived.payload.now h
    (c.in_err-send.ensures.failed s others h force is))

pub returns-in_err-receive-clause-failed : goal.returns-in_err-receive-clause-failed
unfolding followed
returns-in_err-receive-clause-failed g c = on_err_always c.from_residual-in_err-receive.result (λ s others h force is.
    let app = g.A.App.meaning c.args.terms.now.app.now in
    let arrived = c.args.arrived.now in
    let reached = c.in_ok-send.ensures.stands s others h force is in
    let sent = sender_phase app s arrived.number arrived.from arrived.head.now arrived.scale h in
    let interns = g.F.ForestView.interns c.send.new.forests in
    let interns_after = g.F.ForestView.interns c.receive.new.forests in
    let received = λ (n : ℕ). receiver_phase app s arrived.number arrived.from arrived.head.now arrived.payload.now n sent in
    within-on _ _ _ _ _ _ reached.interned
    (received_costs interns interns_after arrived.number sent (received h.count) h c.send.new.ledger c.in_default.is reached.under.drop
    (subst (λ n. InternsWithin interns interns_after sent.altered (received n).altered) (c.send.ensures.made_calls.count ∙ is.kept.count)
    ((c.in_err-receive.ensures.failed s force).interned others sent reached.under))))
