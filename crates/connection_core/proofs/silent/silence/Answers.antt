use Rattle.std.proofs.lemmas.Result.{on_ok_weaker}
use Rattle.native_filters.specs.declared.facts.Hook.TheVariants.{Rcv}
use Rattle.app_api.specs.Events.{TIMER}
use Rattle.connection_core.specs.InForce.{registered}
use Rattle.connection_core.proofs.Silenced.{silenced_noted}
use Rattle.connection_core.proofs.silent.silence.Goals as goal

pub returns-clause-stands : goal.returns-clause-stands
returns-clause-stands g c =
    on_ok_weaker c.call_at.result (λ steps. λ s others h force is.
    silenced_noted (g.A.App.meaning c.args.terms.now.app.now) s c.args.terms.now.keep others (registered c.args.terms.now.in_force)
    (g.F.ForestView.content c.args.forests.now c.args.flow.forest) c.tree_of-tree.result.now c.args.number (record { hook = Rcv; event = TIMER; facts = c.args.facts.now }) c.args.flow
    c.call_at.new.socket c.args.notes.now c.call_at.new.notes c.args.ledger.now c.begin.new.self c.call_at.new.ledger h
    c.tree_of-tree.ensures is c.begin.ensures (steps s force))
    c.call_at.ensures.stands
