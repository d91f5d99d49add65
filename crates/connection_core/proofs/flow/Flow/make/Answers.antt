use Rattle.std.proofs.Common.{ℕ, ◌<◌, ◌≤◌, List, length, map, get_or, refl, subst, ap, ◌∙◌, arith}
use Rattle.std.proofs.lemmas.List.{take_all}
use Rattle.builtin_events.specs.declared.raise.Raise.{Raise}
use Rattle.connection_core.specs.InForce.{registered}
use Rattle.connection_core.specs.Trees.{active_in}
use Rattle.connection_core.specs.PacketUnderWay.{phase as phase_of}
use Rattle.connection_core.specs.Standing.{state_of, Makes, CostsUnder, raise_of}
use Rattle.connection_core.proofs.Errors.{on_err_always}
use Rattle.connection_core.proofs.Settling.{phase_begun, phase_on, phase_failed, raise_as}
use Rattle.builtin_events.specs.Source.{facts_of}
use Rattle.connection_core.proofs.flow.Flow.make.Goals as goal

pub loop-event-init : goal.loop-event-init
loop-event-init g c = record {
  held = c.requires.ready.held;
  kept = record { still_answered = λ s a. a; same_content = λ s a. refl };
  made = λ s force. phase_begun (g.A.App.meaning c.args.terms.now.app.now) s c.args.terms.now.keep
      (active_in (registered c.args.terms.now.in_force) (g.F.ForestView.content c.args.forests.now c.args.self.now.forest)) (g.F.ForestView.interns c.args.forests.now)
      c.args.phase.now.number c.args.phase.now.from c.args.self.now.socket c.args.notes.now c.args.ledger.now;
  rise = record { callbacks = omega arith; weight = omega arith };
  asked = c.requires.quiet;
  count = refl;
}

pub loop-event-preserved : goal.loop-event-preserved
loop-event-preserved g c =
    let inv = c.loop-event.invariant in
    let went = c.raise.ensures.made_calls.went in
    let kept = went.kept in record {
      held = went.held;
      kept = record {
        still_answered = λ s a. kept.still_answered s (inv.kept.still_answered s a);
        same_content = λ s a. kept.same_content s (inv.kept.still_answered s a) ∙ inv.kept.same_content s a;
      };
      made = λ s force.
          let app = g.A.App.meaning c.args.terms.now.app.now in
          let keep = c.args.terms.now.keep in
          let interns = g.F.ForestView.interns in
          let content = g.F.ForestView.content in
          let in_tree = active_in (registered c.args.terms.now.in_force) in
          let phase = c.args.phase.now in
          let at : ℕ → Raise = λ event. record { hook = phase.raising.hook; event = event; facts = facts_of phase.raising.source } in
          let n = c.loop-event.event-index in
          let items = c.as_slice-event-items.ensures.items in
          let list_now = in_tree (content c.loop-event.forests c.loop-event.self.forest) in
          let list_after = in_tree (content c.raise.new.forests c.raise.new.self.forest) in
          let one = raise_as
          (λ step. Makes keep list_now c.loop-event.self.socket c.loop-event.notes c.loop-event.ledger (interns c.loop-event.forests)
          list_after c.raise.new.self.socket c.raise.new.notes c.raise.new.ledger (interns c.raise.new.forests) step)
          app s phase.number c.raise_at-raise_at.result.number phase.from c.raise_at-raise_at.result.from (at (get_or phase.raising.events n 0)) (raise_of c.raise_at-raise_at.result)
          c.raise_at-raise_at.ensures.number c.raise_at-raise_at.ensures.from (c.raise_at-raise_at.ensures.raise ∙ ap (λ (l : List ℕ). at (get_or l n 0)) items)
          (c.in_ok-raise.ensures.made.makes s force) in
          phase_on app s keep phase.number phase.from at phase.raising.events n
          (in_tree (content c.args.forests.now c.args.self.now.forest)) list_now list_after
          c.args.self.now.socket c.loop-event.self.socket c.raise.new.self.socket c.args.notes.now c.loop-event.notes c.raise.new.notes c.args.ledger.now c.loop-event.ledger c.raise.new.ledger
          (interns c.args.forests.now) (interns c.loop-event.forests) (interns c.raise.new.forests)
          (subst (λ (l : List ℕ). n < length l) items c.loop-event-test.true) (inv.made s force) one;
      rise = record { callbacks = omega (arith, inv.rise.callbacks, went.rise.callbacks); weight = omega (arith, inv.rise.weight, went.rise.weight) };
      asked = c.in_ok-raise.ensures.made.asked;
      count = c.raise.ensures.made_calls.count ∙ inv.count;
    }

pub returns-clause-made : goal.returns-clause-made
returns-clause-made g c = record {
  makes = λ s force.
      let phase = c.args.phase.now in
      let at : ℕ → Raise = λ event. record { hook = phase.raising.hook; event = event; facts = facts_of phase.raising.source } in
      let in_tree = active_in (registered c.args.terms.now.in_force) in
      let n = c.loop-event.event-index in
      let last : length phase.raising.events ≤ n = subst (λ (l : List ℕ). length l ≤ n) c.as_slice-event-items.ensures.items c.loop-event-test.false in
      subst (λ l. Makes c.args.terms.now.keep
      (in_tree (g.F.ForestView.content c.args.forests.now c.args.self.now.forest)) c.args.self.now.socket c.args.notes.now c.args.ledger.now (g.F.ForestView.interns c.args.forests.now)
      (in_tree (g.F.ForestView.content c.loop-event.forests c.loop-event.self.forest)) c.loop-event.self.socket c.loop-event.notes c.loop-event.ledger (g.F.ForestView.interns c.loop-event.forests)
      (phase_of (g.A.App.meaning c.args.terms.now.app.now) s phase.number phase.from (map at l))) (take_all n phase.raising.events last) (c.loop-event.invariant.made s force);
  asked = c.loop-event.invariant.asked;
}

pub returns-in_err-raise-clause-failed : goal.returns-in_err-raise-clause-failed
returns-in_err-raise-clause-failed g c = on_err_always c.from_residual.result (λ s force.
    let app = g.A.App.meaning c.args.terms.now.app.now in
    let keep = c.args.terms.now.keep in
    let interns = g.F.ForestView.interns in
    let in_tree = active_in (registered c.args.terms.now.in_force) in
    let phase = c.args.phase.now in
    let at : ℕ → Raise = λ event. record { hook = phase.raising.hook; event = event; facts = facts_of phase.raising.source } in
    let n = c.loop-event.event-index in
    let items = c.as_slice-event-items.ensures.items in
    let list_now = in_tree (g.F.ForestView.content c.loop-event.forests c.loop-event.self.forest) in
    let one = raise_as
    (λ step. CostsUnder keep list_now (state_of c.loop-event.self.socket c.loop-event.notes c.loop-event.ledger) (interns c.loop-event.forests) (interns c.raise.new.forests) step)
    app s phase.number c.raise_at-raise_at.result.number phase.from c.raise_at-raise_at.result.from (at (get_or phase.raising.events n 0)) (raise_of c.raise_at-raise_at.result)
    c.raise_at-raise_at.ensures.number c.raise_at-raise_at.ensures.from (c.raise_at-raise_at.ensures.raise ∙ ap (λ (l : List ℕ). at (get_or l n 0)) items)
    (c.in_err-raise.ensures.failed s force) in
    phase_failed app s keep phase.number phase.from at phase.raising.events n (in_tree (g.F.ForestView.content c.args.forests.now c.args.self.now.forest)) list_now
    c.args.self.now.socket c.loop-event.self.socket c.args.notes.now c.loop-event.notes c.args.ledger.now c.loop-event.ledger
    (interns c.args.forests.now) (interns c.loop-event.forests) (interns c.raise.new.forests)
    (subst (λ (l : List ℕ). n < length l) items c.loop-event-test.true) (c.loop-event.invariant.made s force) one)
