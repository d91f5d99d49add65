use Rattle.std.proofs.Common.{sym, ap, ◌∙◌}
use Rattle.builtin_events.specs.Raised.{raises_of}
use Rattle.connection_core.specs.InForce.{registered}
use Rattle.connection_core.specs.Trees.{active_in}
use Rattle.connection_core.specs.History.{orphan_history, orphan_verdict, verdict_of, drops_of}
use Rattle.connection_core.proofs.Phases.{orphan_under}
use Rattle.connection_core.proofs.orphans.orphan.Goals as goal

pub returns-clause-stands : goal.returns-clause-stands
unfolding orphan_history
returns-clause-stands g c = λ s others force first noted.
    let app = g.A.App.meaning c.args.terms.now.app.now in
    let at = registered c.args.terms.now.in_force in
    (orphan_under app s c.args.terms.now.keep others (active_in at c.tree_of-tree.result.now) c.args.number (raises_of c.args.raised) c.rbuf.result c.policy.result
    c.new-socket.result c.raise_all.new.socket c.args.notes.now c.raise_all.new.notes c.args.ledger.now c.begin.new.self c.raise_all.new.ledger
    (ap (active_in at) c.tree_of-tree.ensures ∙ first) (c.rbuf.ensures.rbuf s force) (c.policy.ensures s force) c.new-socket.ensures noted
    c.begin.ensures (c.in_ok-raise_all.ensures.stands s force)).noted

pub returns-clause-verdict : goal.returns-clause-verdict
unfolding orphan_verdict
returns-clause-verdict g c = λ s others force first noted.
    let app = g.A.App.meaning c.args.terms.now.app.now in
    let at = registered c.args.terms.now.in_force in
    c.verdict_of.ensures ∙ ap verdict_of
    (orphan_under app s c.args.terms.now.keep others (active_in at c.tree_of-tree.result.now) c.args.number (raises_of c.args.raised) c.rbuf.result c.policy.result
    c.new-socket.result c.raise_all.new.socket c.args.notes.now c.raise_all.new.notes c.args.ledger.now c.begin.new.self c.raise_all.new.ledger
    (ap (active_in at) c.tree_of-tree.ensures ∙ first) (c.rbuf.ensures.rbuf s force) (c.policy.ensures s force) c.new-socket.ensures noted
    c.begin.ensures (c.in_ok-raise_all.ensures.stands s force)).drop

pub returns-clause-drops : goal.returns-clause-drops
unfolding orphan_history
returns-clause-drops g c = λ s others force first noted.
    let app = g.A.App.meaning c.args.terms.now.app.now in
    let at = registered c.args.terms.now.in_force in
    ap (λ v. drops_of v c.args.number) (sym (c.verdict_of.ensures ∙ ap verdict_of
    (orphan_under app s c.args.terms.now.keep others (active_in at c.tree_of-tree.result.now) c.args.number (raises_of c.args.raised) c.rbuf.result c.policy.result
    c.new-socket.result c.raise_all.new.socket c.args.notes.now c.raise_all.new.notes c.args.ledger.now c.begin.new.self c.raise_all.new.ledger
    (ap (active_in at) c.tree_of-tree.ensures ∙ first) (c.rbuf.ensures.rbuf s force) (c.policy.ensures s force) c.new-socket.ensures noted
    c.begin.ensures (c.in_ok-raise_all.ensures.stands s force)).drop))
