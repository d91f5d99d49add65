use Rattle.std.proofs.lemmas.Result.{on_ok_weaker, on_err_weaker}
use Rattle.builtin_events.specs.Source.{raises_in}
use Rattle.connection_core.specs.InForce.{registered}
use Rattle.connection_core.specs.Standing.{Reached, kept_with}
use Rattle.connection_core.specs.Trees.{active_in, InternsWithin}
use Rattle.connection_core.proofs.Phases.{sender_makes, sender_costs_none}
use Rattle.connection_core.proofs.Unheard.{phase_silent}
use Rattle.connection_core.proofs.Errors.{on_err_always}
use Rattle.connection_core.proofs.Resting.{NotesOne, CountsOne, sender_rests}
use Rattle.connection_core.specs.Resting.{Rests, entry_at_rest}
use Rattle.connection_core.specs.Unheard.{CallNothing}
use Rattle.builtin_events.specs.Raises.{sender_raises}
use Rattle.shared_forest.specs.Lists.{TreeLists}
use Rattle.std.proofs.Common.{eqb, [], ◌∷◌, ◌∙◌, ap, refl, subst, sym}
use Rattle.native_filters.specs.declared.facts.Facts.{Facts}
use Rattle.native_filters.specs.declared.facts.Hook.TheVariants.{Snd}
use Rattle.builtin_events.specs.declared.raise.Raise.{Raise}
use Rattle.builtin_events.specs.Facts.{sender_facts}
use Rattle.connection_core.specs.PacketUnderWay.{phase}
use Rattle.connection_core.proofs.flow.Flow.send.Goals as goal

abbrev pkt_in : Facts → Raise
pkt_in facts = record { hook = Snd; event = 257; facts = facts }

pub returns-clause-stands : goal.returns-clause-stands
returns-clause-stands g c =
    on_ok_weaker c.make.result (λ makes. λ s others h force is.
    let app = g.A.App.meaning c.args.terms.now.app.now in
    let at = registered c.args.terms.now.in_force in
    let keep = c.args.terms.now.keep in
    sender_makes app s keep others at (g.F.ForestView.content c.args.forests.now c.args.self.now.forest)
    c.args.arrived.now.number c.args.arrived.now.from c.args.arrived.now.head.now c.args.arrived.now.scale
    c.send-sent.result (raises_in c.raising_at_sender-raising.result) c.args.self.now c.send-sent.new.self c.args.notes.now c.args.ledger.now c.begin.new.self h
    (λ before after. Reached keep others (active_in at (g.F.ForestView.content c.make.new.forests c.make.new.self.forest)) c.make.new.self.socket c.make.new.notes c.make.new.ledger
    (g.F.ForestView.interns c.args.forests.now) (g.F.ForestView.interns c.make.new.forests) before.altered after)
    is c.send-sent.ensures.stands c.send-sent.ensures.answer c.raising_at_sender-raising.ensures c.begin.ensures ((makes.makes s force).stands others))
    c.make.ensures.made

pub returns-clause-failed : goal.returns-clause-failed
returns-clause-failed g c =
    on_err_weaker c.make.result (λ costs. λ s others h force is.
    let app = g.A.App.meaning c.args.terms.now.app.now in
    sender_makes app s c.args.terms.now.keep others (registered c.args.terms.now.in_force) (g.F.ForestView.content c.args.forests.now c.args.self.now.forest)
    c.args.arrived.now.number c.args.arrived.now.from c.args.arrived.now.head.now c.args.arrived.now.scale
    c.send-sent.result (raises_in c.raising_at_sender-raising.result) c.args.self.now c.send-sent.new.self c.args.notes.now c.args.ledger.now c.begin.new.self h
    (λ before after. InternsWithin (g.F.ForestView.interns c.args.forests.now) (g.F.ForestView.interns c.make.new.forests) before.altered after.altered)
    is c.send-sent.ensures.stands c.send-sent.ensures.answer c.raising_at_sender-raising.ensures c.begin.ensures ((costs s force).interned others))
    c.make.ensures.failed

-- nobody hears anything of it
pub returns-then-not-hears_sender-clause-stands : goal.returns-then-not-hears_sender-clause-stands
returns-then-not-hears_sender-clause-stands g c = λ s others h force is.
    let app = g.A.App.meaning c.args.terms.now.app.now in
    let at = registered c.args.terms.now.in_force in
    let keep = c.args.terms.now.keep in
    let tree = g.F.ForestView.content c.args.forests.now c.args.self.now.forest in
    let interns = g.F.ForestView.interns c.args.forests.now in
    let arrived = c.args.arrived.now in
    let raises = sender_raises arrived.head.now arrived.from c.args.self.now.count (eqb c.args.self.now.count 0) c.send-sent.result in
    let silent = subst (λ (t : TreeLists). CallNothing s (active_in at t) raises) c.tree_of-tree.ensures
    (c.hears_sender.ensures c.if-not-hears_sender.true s arrived.head.now arrived.from c.args.self.now.count force) in
    sender_makes app s keep others at tree arrived.number arrived.from arrived.head.now arrived.scale
    c.send-sent.result raises c.args.self.now c.send-sent.new.self c.args.notes.now c.args.ledger.now c.begin.new.self h
    (λ before after. Reached keep others (active_in at tree) c.send-sent.new.self c.args.notes.now c.begin.new.self interns interns before.altered after)
    is c.send-sent.ensures.stands c.send-sent.ensures.answer refl c.begin.ensures
    (phase_silent app s keep others (active_in at tree) interns arrived.number arrived.from raises c.send-sent.new.self c.args.notes.now c.begin.new.self silent c.begin.ensures.changes)

-- `pkt_in` alone is raised
pub returns-then-is_alone_at_sender-clause-stands : goal.returns-then-is_alone_at_sender-clause-stands
unfolding phase
returns-then-is_alone_at_sender-clause-stands g c =
    on_ok_weaker c.raise.result (λ makes. λ s others h force is.
    let app = g.A.App.meaning c.args.terms.now.app.now in
    let at = registered c.args.terms.now.in_force in
    let keep = c.args.terms.now.keep in
    let arrived = c.args.arrived.now in
    sender_makes app s keep others at (g.F.ForestView.content c.args.forests.now c.args.self.now.forest)
    arrived.number arrived.from arrived.head.now arrived.scale
    c.send-sent.result (pkt_in (sender_facts arrived.head.now arrived.from c.args.self.now.count c.send-sent.result) ∷ []) c.args.self.now c.send-sent.new.self c.args.notes.now c.args.ledger.now c.begin.new.self h
    (λ before after. Reached keep others (active_in at (g.F.ForestView.content c.raise.new.forests c.raise.new.self.forest)) c.raise.new.self.socket c.raise.new.notes c.raise.new.ledger
    (g.F.ForestView.interns c.args.forests.now) (g.F.ForestView.interns c.raise.new.forests) before.altered after)
    is c.send-sent.ensures.stands c.send-sent.ensures.answer
    (sym (c.is_alone_at_sender.ensures c.if-is_alone_at_sender.true arrived.head.now arrived.from c.args.self.now.count)) c.begin.ensures ((makes.makes s force).stands others))
    c.raise.ensures.made

pub returns-then-is_alone_at_sender-clause-failed : goal.returns-then-is_alone_at_sender-clause-failed
unfolding phase
returns-then-is_alone_at_sender-clause-failed g c =
    on_err_weaker c.raise.result (λ costs. λ s others h force is.
    let app = g.A.App.meaning c.args.terms.now.app.now in
    let arrived = c.args.arrived.now in
    sender_makes app s c.args.terms.now.keep others (registered c.args.terms.now.in_force) (g.F.ForestView.content c.args.forests.now c.args.self.now.forest)
    arrived.number arrived.from arrived.head.now arrived.scale
    c.send-sent.result (pkt_in (sender_facts arrived.head.now arrived.from c.args.self.now.count c.send-sent.result) ∷ []) c.args.self.now c.send-sent.new.self c.args.notes.now c.args.ledger.now c.begin.new.self h
    (λ before after. InternsWithin (g.F.ForestView.interns c.args.forests.now) (g.F.ForestView.interns c.raise.new.forests) before.altered after.altered)
    is c.send-sent.ensures.stands c.send-sent.ensures.answer
    (sym (c.is_alone_at_sender.ensures c.if-is_alone_at_sender.true arrived.head.now arrived.from c.args.self.now.count)) c.begin.ensures ((costs s force).interned others))
    c.raise.ensures.failed

-- one thing is called of it, and that does nothing
pub returns-in-Some-clause-stands : goal.returns-in-Some-clause-stands
returns-in-Some-clause-stands g c =
    on_ok_weaker c.keep_entry.result (λ entries. λ s others h force is.
    let app = g.A.App.meaning c.args.terms.now.app.now in
    let lent = c.args.terms.now.in_force in
    let at = registered lent in
    let keep = c.args.terms.now.keep in
    let tree = g.F.ForestView.content c.args.forests.now c.args.self.now.forest in
    let interns = g.F.ForestView.interns c.args.forests.now in
    let arrived = c.args.arrived.now in
    let first = eqb c.args.self.now.count 0 in
    let rests = subst (λ (t : TreeLists). Rests app lent t Snd c.in-Some.number) c.tree_of-tree.ensures c.in-Some.ensures in
    let alone = rests.1 s force in
    let noted : NotesOne keep arrived.number Snd alone.0.number c.args.notes.now c.keep_entry.new.self = record {
      tally = c.keep_entry.ensures.tally;
      entries = entries ∙ ap (λ w. kept_with keep c.args.notes.now.entries w) (c.entry_at_rest.ensures ∙ ap (λ n. entry_at_rest arrived.number Snd n) (sym alone.1.0));
    } in
    let counts : CountsOne c.begin.new.self c.count.new.self = record {
      callbacks = c.count.ensures.callbacks;
      weight = c.count.ensures.weight;
      changes = c.count.ensures.changes;
      drop = c.count.ensures.drop;
    } in
    sender_makes app s keep others at tree arrived.number arrived.from arrived.head.now arrived.scale
    c.send-sent.result (sender_raises arrived.head.now arrived.from c.args.self.now.count first c.send-sent.result) c.args.self.now c.send-sent.new.self c.args.notes.now c.args.ledger.now c.begin.new.self h
    (λ before after. Reached keep others (active_in at tree) c.send-sent.new.self c.keep_entry.new.self c.count.new.self interns interns before.altered after)
    is c.send-sent.ensures.stands c.send-sent.ensures.answer refl c.begin.ensures
    (sender_rests app rests.0 s keep others (active_in at tree) interns arrived.number arrived.from arrived.head.now c.args.self.now.count first c.send-sent.result
    alone.0 alone.1.1 c.send-sent.new.self c.args.notes.now c.keep_entry.new.self c.begin.new.self c.count.new.self noted counts c.begin.ensures.changes))
    c.keep_entry.ensures.entries

pub returns-in-Some-clause-failed : goal.returns-in-Some-clause-failed
returns-in-Some-clause-failed g c = on_err_always c.keep_entry.result (λ s others h force is.
    sender_costs_none (g.A.App.meaning c.args.terms.now.app.now) s (g.F.ForestView.interns c.args.forests.now) c.args.arrived.now.number c.args.arrived.now.from
    c.args.arrived.now.head.now c.args.arrived.now.scale h)
