use Rattle.std.proofs.lemmas.Result.{on_ok_weaker, on_err_weaker}
use Rattle.builtin_events.specs.Source.{raises_in}
use Rattle.connection_core.specs.InForce.{registered}
use Rattle.connection_core.specs.Standing.{Reached, kept_with}
use Rattle.connection_core.specs.Trees.{active_in, InternsWithin}
use Rattle.connection_core.proofs.Errors.{on_err_always}
use Rattle.connection_core.proofs.Phases.{receiver_makes, receiver_costs_none}
use Rattle.connection_core.proofs.Unheard.{phase_silent}
use Rattle.connection_core.proofs.Resting.{NotesOne, CountsOne, receiver_rests}
use Rattle.connection_core.specs.Resting.{Rests, entry_at_rest}
use Rattle.connection_core.specs.Unheard.{CallNothing}
use Rattle.builtin_events.specs.Raises.{receiver_raises}
use Rattle.shared_forest.specs.Lists.{TreeLists}
use Rattle.native_filters.specs.declared.facts.Hook.TheVariants.{Rcv}
use Rattle.std.proofs.Common.{◌∙◌, ap, refl, subst, sym}
use Rattle.connection_core.proofs.flow.Flow.receive.Goals as goal

pub returns-clause-stands : goal.returns-clause-stands
returns-clause-stands g c =
    on_ok_weaker c.make.result (λ made. record {
      makes = λ s force. record {
        stands = λ others under_way u.
            let app = g.A.App.meaning c.args.terms.now.app.now in
            let at = registered c.args.terms.now.in_force in
            let keep = c.args.terms.now.keep in
            receiver_makes app s keep others (active_in at (g.F.ForestView.content c.args.forests.now c.args.self.now.forest))
            c.args.arrived.now.number c.args.arrived.now.from c.args.arrived.now.head.now c.args.arrived.now.payload.now c.args.self.now.count
            c.in_ok-got.got (raises_in c.raising_at_receiver.result) c.args.self.now.socket c.receive.new.self c.args.notes.now c.args.ledger.now under_way
            (λ before after. Reached keep others (active_in at (g.F.ForestView.content c.make.new.forests c.make.new.self.forest)) c.make.new.self.socket c.make.new.notes c.make.new.ledger
            (g.F.ForestView.interns c.args.forests.now) (g.F.ForestView.interns c.make.new.forests) before.altered after)
            u c.in_ok-got.ensures.stands c.in_ok-got.ensures.answer c.raising_at_receiver.ensures ((made.makes s force).stands others);
      };
      asked = made.asked;
    })
    c.make.ensures.made

pub returns-clause-failed : goal.returns-clause-failed
returns-clause-failed g c =
    on_err_weaker c.make.result (λ costs. λ s force. record {
      interned = λ others under_way u.
          receiver_makes (g.A.App.meaning c.args.terms.now.app.now) s c.args.terms.now.keep others
          (active_in (registered c.args.terms.now.in_force) (g.F.ForestView.content c.args.forests.now c.args.self.now.forest))
          c.args.arrived.now.number c.args.arrived.now.from c.args.arrived.now.head.now c.args.arrived.now.payload.now c.args.self.now.count
          c.in_ok-got.got (raises_in c.raising_at_receiver.result) c.args.self.now.socket c.receive.new.self c.args.notes.now c.args.ledger.now under_way
          (λ before after. InternsWithin (g.F.ForestView.interns c.args.forests.now) (g.F.ForestView.interns c.make.new.forests) before.altered after.altered)
          u c.in_ok-got.ensures.stands c.in_ok-got.ensures.answer c.raising_at_receiver.ensures ((costs s force).interned others);
    })
    c.make.ensures.failed

pub returns-in_err-got-clause-failed : goal.returns-in_err-got-clause-failed
returns-in_err-got-clause-failed g c = on_err_always c.from_residual.result (λ s force.
    receiver_costs_none (g.A.App.meaning c.args.terms.now.app.now) s c.args.terms.now.keep
    (active_in (registered c.args.terms.now.in_force) (g.F.ForestView.content c.args.forests.now c.args.self.now.forest))
    (g.F.ForestView.interns c.args.forests.now) c.args.arrived.now.number c.args.arrived.now.from c.args.arrived.now.head.now c.args.arrived.now.payload.now c.args.self.now.count
    c.args.self.now.socket c.args.notes.now c.args.ledger.now)

-- nobody hears anything of it
pub returns-then-not-hears_receiver-clause-stands : goal.returns-then-not-hears_receiver-clause-stands
returns-then-not-hears_receiver-clause-stands g c = record {
  makes = λ s force.
      let app = g.A.App.meaning c.args.terms.now.app.now in
      let at = registered c.args.terms.now.in_force in
      let keep = c.args.terms.now.keep in
      let tree = g.F.ForestView.content c.args.forests.now c.args.self.now.forest in
      let interns = g.F.ForestView.interns c.args.forests.now in
      let arrived = c.args.arrived.now in
      let raises = receiver_raises arrived.head.now arrived.from c.args.self.now.count c.in_ok-got.got in
      let silent = subst (λ (t : TreeLists). CallNothing s (active_in at t) raises) c.tree_of-tree.ensures
      (c.hears_receiver.ensures c.if-not-hears_receiver.true s arrived.from c.args.self.now.count force) in record {
        stands = λ others under_way u.
            receiver_makes app s keep others (active_in at tree) arrived.number arrived.from arrived.head.now arrived.payload.now c.args.self.now.count
            c.in_ok-got.got raises c.args.self.now.socket c.receive.new.self c.args.notes.now c.args.ledger.now under_way
            (λ before after. Reached keep others (active_in at tree) c.receive.new.self c.args.notes.now c.args.ledger.now interns interns before.altered after)
            u c.in_ok-got.ensures.stands c.in_ok-got.ensures.answer refl
            (phase_silent app s keep others (active_in at tree) interns arrived.number arrived.from raises c.receive.new.self c.args.notes.now c.args.ledger.now silent c.requires.sent.quiet);
      };
  asked = c.requires.sent.quiet;
}

-- one thing is called of it, and that does nothing
pub returns-in-Some-clause-stands : goal.returns-in-Some-clause-stands
returns-in-Some-clause-stands g c =
    on_ok_weaker c.keep_entry.result (λ entries. record {
      makes = λ s force.
          let app = g.A.App.meaning c.args.terms.now.app.now in
          let lent = c.args.terms.now.in_force in
          let at = registered lent in
          let keep = c.args.terms.now.keep in
          let tree = g.F.ForestView.content c.args.forests.now c.args.self.now.forest in
          let interns = g.F.ForestView.interns c.args.forests.now in
          let arrived = c.args.arrived.now in
          let raises = receiver_raises arrived.head.now arrived.from c.args.self.now.count c.in_ok-got.got in
          let rests = subst (λ (t : TreeLists). Rests app lent t Rcv c.in-Some.number) c.tree_of-tree.ensures c.in-Some.ensures in
          let alone = rests.1 s force in
          let noted : NotesOne keep arrived.number Rcv alone.0.number c.args.notes.now c.keep_entry.new.self = record {
            tally = c.keep_entry.ensures.tally;
            entries = entries ∙ ap (λ w. kept_with keep c.args.notes.now.entries w) (c.entry_at_rest.ensures ∙ ap (λ n. entry_at_rest arrived.number Rcv n) (sym alone.1.0));
          } in
          let counts : CountsOne c.args.ledger.now c.count.new.self = record {
            callbacks = c.count.ensures.callbacks;
            weight = c.count.ensures.weight;
            changes = c.count.ensures.changes;
            drop = c.count.ensures.drop;
          } in record {
            stands = λ others under_way u.
                receiver_makes app s keep others (active_in at tree) arrived.number arrived.from arrived.head.now arrived.payload.now c.args.self.now.count
                c.in_ok-got.got raises c.args.self.now.socket c.receive.new.self c.args.notes.now c.args.ledger.now under_way
                (λ before after. Reached keep others (active_in at tree) c.receive.new.self c.keep_entry.new.self c.count.new.self interns interns before.altered after)
                u c.in_ok-got.ensures.stands c.in_ok-got.ensures.answer refl
                (receiver_rests app rests.0 s keep others (active_in at tree) interns arrived.number arrived.from arrived.head.now c.args.self.now.count c.in_ok-got.got
                alone.0 alone.1.1 c.receive.new.self c.args.notes.now c.keep_entry.new.self c.args.ledger.now c.count.new.self noted counts c.requires.sent.quiet);
          };
      asked = ap (λ v. v.items) c.count.ensures.changes ∙ c.requires.sent.quiet;
    })
    c.keep_entry.ensures.entries

pub returns-in-Some-clause-failed : goal.returns-in-Some-clause-failed
returns-in-Some-clause-failed g c = on_err_always c.keep_entry.result (λ s force.
    receiver_costs_none (g.A.App.meaning c.args.terms.now.app.now) s c.args.terms.now.keep
    (active_in (registered c.args.terms.now.in_force) (g.F.ForestView.content c.args.forests.now c.args.self.now.forest))
    (g.F.ForestView.interns c.args.forests.now) c.args.arrived.now.number c.args.arrived.now.from c.args.arrived.now.head.now c.args.arrived.now.payload.now c.args.self.now.count
    c.args.self.now.socket c.args.notes.now c.args.ledger.now)
