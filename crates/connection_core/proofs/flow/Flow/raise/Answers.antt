use Rattle.std.proofs.Common.{refl, subst}
use Rattle.shared_forest.specs.Lists.{TreeLists}
use Rattle.connection_core.specs.InForce.{registered}
use Rattle.connection_core.specs.PacketUnderWay.{called_at}
use Rattle.connection_core.specs.Trees.{active_in}
use Rattle.connection_core.specs.Standing.{Steps, raise_of}
use Rattle.connection_core.proofs.Errors.{on_err_always}
use Rattle.connection_core.proofs.Settling.{raise_made, raise_made_unasked, raise_costs_none, raise_costs}
use Rattle.connection_core.proofs.flow.Flow.raise.Goals as goal

pub returns-clause-made : goal.returns-clause-made
returns-clause-made g c = record {
  makes = λ s force.
      let app = g.A.App.meaning c.args.terms.now.app.now in
      let at = registered c.args.terms.now.in_force in
      let keep = c.args.terms.now.keep in
      let step = called_at app s c.args.raise_at.now.number c.args.raise_at.now.from (raise_of c.args.raise_at.now) in
      let steps = subst (λ (t : TreeLists). Steps keep (active_in at t) c.args.self.now.socket c.args.notes.now c.args.ledger.now c.call_at.new.socket c.call_at.new.notes c.call_at.new.ledger step)
      c.tree_of-tree.ensures (c.in_ok-call_at.ensures.stands s force) in
      let list = active_in at (g.F.ForestView.content c.args.forests.now c.args.self.now.forest) in
      raise_made app s keep list (active_in at (g.F.ForestView.content c.change_all.new.forests c.change_all.new.forest))
      (g.F.ForestView.interns c.args.forests.now) (g.F.ForestView.interns c.change_all.new.forests)
      c.args.raise_at.now.number c.args.raise_at.now.from (raise_of c.args.raise_at.now)
      c.args.self.now.socket c.call_at.new.socket c.args.notes.now c.call_at.new.notes c.args.ledger.now c.call_at.new.ledger _
      steps (rw (← c.as_slice.ensures.value) (c.in_ok-change_all.ensures.made s force)) c.clear.ensures.items refl refl;
  asked = c.clear.ensures.items;
}

pub returns-in_err-call_at-clause-failed : goal.returns-in_err-call_at-clause-failed
returns-in_err-call_at-clause-failed g c = on_err_always c.from_residual.result (λ s force.
    raise_costs_none (g.A.App.meaning c.args.terms.now.app.now) s c.args.terms.now.keep
    (active_in (registered c.args.terms.now.in_force) (g.F.ForestView.content c.args.forests.now c.args.self.now.forest))
    (g.F.ForestView.interns c.args.forests.now) c.args.raise_at.now.number c.args.raise_at.now.from (raise_of c.args.raise_at.now) c.args.self.now.socket c.args.notes.now c.args.ledger.now)

pub returns-in_err-change_all-clause-failed : goal.returns-in_err-change_all-clause-failed
returns-in_err-change_all-clause-failed g c = on_err_always c.from_residual-in_err-change_all.result (λ s force.
    let app = g.A.App.meaning c.args.terms.now.app.now in
    let at = registered c.args.terms.now.in_force in
    let keep = c.args.terms.now.keep in
    let step = called_at app s c.args.raise_at.now.number c.args.raise_at.now.from (raise_of c.args.raise_at.now) in
    raise_costs app s keep (active_in at (g.F.ForestView.content c.args.forests.now c.args.self.now.forest)) (g.F.ForestView.interns c.args.forests.now) (g.F.ForestView.interns c.change_all.new.forests)
    c.args.raise_at.now.number c.args.raise_at.now.from (raise_of c.args.raise_at.now)
    c.args.self.now.socket c.call_at.new.socket c.args.notes.now c.call_at.new.notes c.args.ledger.now c.call_at.new.ledger
    (subst (λ (t : TreeLists). Steps keep (active_in at t) c.args.self.now.socket c.args.notes.now c.args.ledger.now c.call_at.new.socket c.call_at.new.notes c.call_at.new.ledger step)
    c.tree_of-tree.ensures (c.in_ok-call_at.ensures.stands s force))
    (rw (← c.as_slice.ensures.value) (c.in_err-change_all.ensures.failed s force)))

-- no change is asked
pub returns-then-asks_no_change-clause-made : goal.returns-then-asks_no_change-clause-made
returns-then-asks_no_change-clause-made g c = record {
  makes = λ s force.
      let app = g.A.App.meaning c.args.terms.now.app.now in
      let at = registered c.args.terms.now.in_force in
      let keep = c.args.terms.now.keep in
      let interns = g.F.ForestView.interns c.args.forests.now in
      let list = active_in at (g.F.ForestView.content c.args.forests.now c.args.self.now.forest) in
      let step = called_at app s c.args.raise_at.now.number c.args.raise_at.now.from (raise_of c.args.raise_at.now) in
      let steps = subst (λ (t : TreeLists). Steps keep (active_in at t) c.args.self.now.socket c.args.notes.now c.args.ledger.now c.call_at.new.socket c.call_at.new.notes c.call_at.new.ledger step)
      c.tree_of-tree.ensures (c.in_ok-call_at.ensures.stands s force) in
      raise_made_unasked app s keep list interns c.args.raise_at.now.number c.args.raise_at.now.from (raise_of c.args.raise_at.now)
      c.args.self.now.socket c.call_at.new.socket c.args.notes.now c.call_at.new.notes c.args.ledger.now c.call_at.new.ledger steps (c.asks_no_change.ensures c.if-asks_no_change.true);
  asked = c.asks_no_change.ensures c.if-asks_no_change.true;
}
