use Rattle.std.proofs.Common.{ℕ, ◌+◌, ◌≤◌, List, length, map, take, get_or, refl, sym, subst, ◌∙◌, arith}
use Rattle.std.proofs.lemmas.List.{take_all}
use Rattle.builtin_events.specs.declared.raise.Raise.{Raise}
use Rattle.connection_core.specs.InForce.{registered}
use Rattle.connection_core.specs.Trees.{active_in}
use Rattle.connection_core.specs.PacketUnderWay.{raised}
use Rattle.connection_core.specs.Standing.{Steps, raise_of}
use Rattle.connection_core.proofs.Raises.{raised_none, raised_more, raise_as}
use Rattle.builtin_events.specs.Source.{facts_of}
use Rattle.connection_core.proofs.terms.Terms.raise_all.Goals as goal

pub loop-event-init : goal.loop-event-init
loop-event-init g c = record {
  stands = λ s force. raised_none (g.A.App.meaning c.args.self.now.app.now) s c.args.self.now.keep
      (active_in (registered c.args.self.now.in_force) c.args.tree.now) c.args.phase.now.number c.args.phase.now.from
      c.args.socket.now c.args.notes.now c.args.ledger.now;
  rise = record { callbacks = omega arith; weight = omega arith };
  as_far = record { client = refl; server = refl; rbuf = refl };
}

pub loop-event-preserved : goal.loop-event-preserved
loop-event-preserved g c =
    let app = g.A.App.meaning c.args.self.now.app.now in
    let inv = c.loop-event.invariant in
    let hook = c.args.phase.now.raising.hook in
    let facts = facts_of c.args.phase.now.raising.source in record {
      stands = λ s force.
          let at : ℕ → Raise = λ event. record { hook = hook; event = event; facts = facts } in
          let items = c.as_slice-event-items.result.now in
          let event = get_or items c.loop-event.event-index 0 in
          let list = active_in (registered c.args.self.now.in_force) c.args.tree.now in
          let step = raise_as app s c.args.self.now.keep list c.args.phase.now.number c.raise_at-raise_at.result.number c.args.phase.now.from
          c.raise_at-raise_at.result.from (at event) (raise_of c.raise_at-raise_at.result)
          c.loop-event.socket c.call_at.new.socket c.loop-event.notes c.call_at.new.notes c.loop-event.ledger c.call_at.new.ledger
          c.raise_at-raise_at.ensures.number c.raise_at-raise_at.ensures.from c.raise_at-raise_at.ensures.raise (c.in_ok-call_at.ensures.stands s force) in
          let so_far = subst (λ l. Steps c.args.self.now.keep list c.args.socket.now c.args.notes.now c.args.ledger.now c.loop-event.socket c.loop-event.notes c.loop-event.ledger
          (raised app s c.args.phase.now.number c.args.phase.now.from (map at (take c.loop-event.event-index l)))) (sym c.as_slice-event-items.ensures.items) (inv.stands s force) in
          subst (λ l. Steps c.args.self.now.keep list c.args.socket.now c.args.notes.now c.args.ledger.now c.call_at.new.socket c.call_at.new.notes c.call_at.new.ledger
          (raised app s c.args.phase.now.number c.args.phase.now.from (map at (take (c.loop-event.event-index + 1) l)))) c.as_slice-event-items.ensures.items
          (raised_more app s c.args.self.now.keep list c.args.phase.now.number c.args.phase.now.from at items c.loop-event.event-index event
          c.args.socket.now c.loop-event.socket c.call_at.new.socket c.args.notes.now c.loop-event.notes c.call_at.new.notes c.args.ledger.now c.loop-event.ledger c.call_at.new.ledger
          c.loop-event-test.true refl so_far step);
      rise = record { callbacks = omega (arith, inv.rise.callbacks, c.call_at.ensures.most.rise.callbacks); weight = omega (arith, inv.rise.weight, c.call_at.ensures.most.rise.weight) };
      as_far = record {
        client = c.call_at.ensures.most.as_far.client ∙ inv.as_far.client;
        server = c.call_at.ensures.most.as_far.server ∙ inv.as_far.server;
        rbuf = c.call_at.ensures.most.as_far.rbuf ∙ inv.as_far.rbuf;
      };
    }

pub returns-clause-stands : goal.returns-clause-stands
returns-clause-stands g c = λ s force.
    let at : ℕ → Raise = λ event. record { hook = c.args.phase.now.raising.hook; event = event; facts = facts_of c.args.phase.now.raising.source } in
    let events = c.args.phase.now.raising.events in
    let last : length events ≤ c.loop-event.event-index = subst (λ (l : List ℕ). length l ≤ c.loop-event.event-index) c.as_slice-event-items.ensures.items c.loop-event-test.false in
    subst (λ l. Steps c.args.self.now.keep (active_in (registered c.args.self.now.in_force) c.args.tree.now) c.args.socket.now c.args.notes.now
    c.args.ledger.now c.loop-event.socket c.loop-event.notes c.loop-event.ledger
    (raised (g.A.App.meaning c.args.self.now.app.now) s c.args.phase.now.number c.args.phase.now.from (map at l)))
    (take_all c.loop-event.event-index events last) (c.loop-event.invariant.stands s force)
