use Rattle.std.proofs.Common.{ap, ◌∙◌, ◌++◌, ◌∷◌, []}
use Rattle.std.specs.Prelude.{if◌then◌else◌}
use Rattle.std.proofs.lemmas.Result.{on_ok_weaker}
use Rattle.app_api.specs.declared.entry.Entry.{Entry}
use Rattle.connection_core.specs.declared.ledger.Counts.{Counts}
use Rattle.std.specs.Option.{option_or}
use Rattle.connection_core.specs.Standing.{raise_of}
use Rattle.connection_core.proofs.Callbacks.{called_under}
use Rattle.connection_core.proofs.terms.Terms.call.Goals as goal

pub returns-clause-stands : goal.returns-clause-stands
returns-clause-stands g c =
    on_ok_weaker c.keep_entry.result (λ entries. λ list s force. record {
      stands = λ others under_way u.
          let app = g.A.App.meaning c.args.self.now.app.now in
          let r = c.args.reg.now in
          let e = under_way.emulation in
          called_under app s c.args.raise_at.now.number c.args.raise_at.now.from (raise_of c.args.raise_at.now) r c.args.self.now.keep others list
          c.args.socket.now c.look.new.socket c.args.notes.now c.keep_entry.new.self c.args.ledger.now c.ask.new.self c.in_ok-look.look.got c.in_ok-look.look.seen c.react-reaction.result under_way
          u
          (c.look.ensures.stands.marks e u.heard)
          (λ k. c.in_ok-look.ensures.seen k e u.heard)
          (c.in_ok-look.ensures.got e u.heard)
          (c.keep_entry.ensures.tally ∙ c.react-reaction.ensures.tally s force)
          (c.react-reaction.ensures.reaction s force)
          (entries ∙ ap (λ (w : Entry). if c.args.self.now.keep then c.args.notes.now.entries ++ w ∷ [] else c.args.notes.now.entries) c.entry_of.ensures)
          (c.in_ok-ask.ensures.changes ∙ ap (λ v. v.items ++ c.react-reaction.result.changes) c.count.ensures.changes)
          (c.ask.ensures.drop ∙ ap (λ d. option_or d c.react-reaction.result.drop) c.count.ensures.drop)
          (ap (λ (n : Counts). n.callbacks) c.ask.ensures.counts ∙ c.count.ensures.callbacks)
          (ap (λ (n : Counts). n.weight) c.ask.ensures.counts ∙ c.count.ensures.weight);
    }) c.keep_entry.ensures.entries
