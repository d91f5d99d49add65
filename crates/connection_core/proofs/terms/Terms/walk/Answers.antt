use Rattle.std.proofs.Common.{◌≡◌, [], length, refl, sym, ap, subst, ◌∙◌, arith, append-nil}
use Rattle.event_trees.specs.Canon.{canon}
use Rattle.event_trees.specs.Private.{numbers_of, IsPrivate}
use Rattle.event_trees.specs.Walk.{to_come}
use Rattle.event_trees.specs.Later.{IsEarlier}
use Rattle.shared_forest.specs.Listing.{listing}
use Rattle.connection_core.specs.InForce.{registered, defs_at}
use Rattle.connection_core.specs.Trees.{active_in}
use Rattle.connection_core.specs.Standing.{raise_of}
use Rattle.connection_core.proofs.Earlier.{events_known, known_in, private_earlier}
use Rattle.connection_core.proofs.Callbacks.{calls_begun, calls_on, calls_done, all_few}
use Rattle.connection_core.proofs.terms.Terms.walk.Goals as goal

pub loop-number-init : goal.loop-number-init
loop-number-init g c = record {
  stands = λ s force. calls_begun (g.A.App.meaning c.args.self.now.app.now) s c.args.self.now.keep
      (active_in (registered c.args.self.now.in_force) c.args.tree.now) c.args.raise_at.number c.args.raise_at.from (raise_of c.args.raise_at)
      c.args.socket.now c.args.notes.now c.args.ledger.now (to_come c.defs-defs.result.now c.start-walk.result);
  callbacks = omega arith;
  weight = omega arith;
  as_far = record { client = refl; server = refl; rbuf = refl };
}

pub call_number-requires : goal.call_number-requires
call_number-requires g c =
    let list = active_in (registered c.args.self.now.in_force) c.args.tree.now in
    let few = all_few (defs_at c.args.self.now.in_force) c.defs-defs.result.now list c.args.tree.now (raise_of c.args.raise_at) (to_come c.defs-defs.result.now c.start-walk.result)
    c.defs-defs.ensures c.requires.ready.forest.private c.requires.ready.forest.listed c.slots_in_order.ensures.slots c.slots_in_order.ensures.few
    c.later_events_change_nothing.ensures.defs (rw (← c.facts-facts.ensures) (c.start-walk.ensures.fires c.defs-defs.result.now)) in
    let inv = c.loop-number.invariant in record {
      room = record {
        callbacks = omega (arith, few, inv.callbacks, c.requires.ready.room.callbacks);
        weight = omega (arith, few, inv.weight, c.requires.ready.room.weight);
      };
    }

pub loop-number-preserved : goal.loop-number-preserved
loop-number-preserved g c =
    let given = c.in-Some.ensures.given in
    let count = ap length given in
    let inv = c.loop-number.invariant in record {
      stands = λ s force. calls_on (g.A.App.meaning c.args.self.now.app.now) s c.args.self.now.keep
          (active_in (registered c.args.self.now.in_force) c.args.tree.now) c.args.raise_at.number c.args.raise_at.from (raise_of c.args.raise_at)
          c.args.socket.now c.args.notes.now c.args.ledger.now (to_come c.defs-defs.result.now c.start-walk.result) c.loop-number.socket
          c.call_number.new.socket c.loop-number.notes c.call_number.new.notes c.loop-number.ledger c.call_number.new.ledger
          _ _ c.in-Some.number (inv.stands s force) given (c.in_ok-call_number.ensures.stands _ s force);
      callbacks = omega (arith, count, inv.callbacks, c.call_number.ensures.most.rise.callbacks);
      weight = omega (arith, count, inv.weight, c.call_number.ensures.most.rise.weight);
      as_far = record {
        client = c.call_number.ensures.most.as_far.client ∙ inv.as_far.client;
        server = c.call_number.ensures.most.as_far.server ∙ inv.as_far.server;
        rbuf = c.call_number.ensures.most.as_far.rbuf ∙ inv.as_far.rbuf;
      };
    }

pub returns-in_err-call_number-clause-most : goal.returns-in_err-call_number-clause-most
returns-in_err-call_number-clause-most g c =
    let list = active_in (registered c.args.self.now.in_force) c.args.tree.now in
    let few = all_few (defs_at c.args.self.now.in_force) c.defs-defs.result.now list c.args.tree.now (raise_of c.args.raise_at) (to_come c.defs-defs.result.now c.start-walk.result)
    c.defs-defs.ensures c.requires.ready.forest.private c.requires.ready.forest.listed c.slots_in_order.ensures.slots c.slots_in_order.ensures.few
    c.later_events_change_nothing.ensures.defs (rw (← c.facts-facts.ensures) (c.start-walk.ensures.fires c.defs-defs.result.now)) in
    let count = ap length c.in-Some.ensures.given in
    let inv = c.loop-number.invariant in
    let most = c.call_number.ensures.most in record {
      rise = record {
        callbacks = omega (arith, few, count, inv.callbacks, most.rise.callbacks);
        weight = omega (arith, few, count, inv.weight, most.rise.weight);
      };
      as_far = record {
        client = most.as_far.client ∙ inv.as_far.client;
        server = most.as_far.server ∙ inv.as_far.server;
        rbuf = most.as_far.rbuf ∙ inv.as_far.rbuf;
      };
    }

pub returns-clause-stands : goal.returns-clause-stands
returns-clause-stands g c = λ s force.
    let lent = c.args.self.now.in_force in
    let list = active_in (registered lent) c.args.tree.now in
    let raise = raise_of c.args.raise_at in
    let later = c.later_events_change_nothing.ensures in
    let earlier = subst (IsEarlier s.defs) (sym c.defs-defs.ensures) force.defs in
    let known = known_in (registered lent) s.regs list force.regs c.requires.ready.forest.private.numbers c.requires.ready.forest.known in
    let there = subst (λ d. IsPrivate d list) (sym c.defs-defs.ensures) c.requires.ready.forest.private in
    let private = private_earlier s.defs c.defs-defs.result.now list (λ event is. later.paths s.defs event earlier is) (events_known s.defs s.regs list force.sound.private known) there in
    calls_done (g.A.App.meaning c.args.self.now.app.now) s c.args.self.now.keep list c.args.raise_at.number c.args.raise_at.from raise
    c.args.socket.now c.args.notes.now c.args.ledger.now (to_come c.defs-defs.result.now c.start-walk.result) c.loop-number.socket c.loop-number.notes c.loop-number.ledger _
    (c.loop-number.invariant.stands s force) c.in_default.ensures.end known
    (rw (← c.facts-facts.ensures) (c.start-walk.ensures.fires c.defs-defs.result.now list (later.defs _ ([], append-nil c.defs-defs.result.now)) there
    (subst (λ d. listing c.args.tree.now ≡ canon d list) (sym c.defs-defs.ensures) c.requires.ready.forest.listed))
    ∙ ap numbers_of (later.fires s.defs list earlier private raise.facts raise.hook raise.event))

pub returns-clause-most : goal.returns-clause-most
returns-clause-most g c =
    let list = active_in (registered c.args.self.now.in_force) c.args.tree.now in
    let few = all_few (defs_at c.args.self.now.in_force) c.defs-defs.result.now list c.args.tree.now (raise_of c.args.raise_at) (to_come c.defs-defs.result.now c.start-walk.result)
    c.defs-defs.ensures c.requires.ready.forest.private c.requires.ready.forest.listed c.slots_in_order.ensures.slots c.slots_in_order.ensures.few
    c.later_events_change_nothing.ensures.defs (rw (← c.facts-facts.ensures) (c.start-walk.ensures.fires c.defs-defs.result.now)) in
    let inv = c.loop-number.invariant in record {
      rise = record { callbacks = omega (arith, few, inv.callbacks); weight = omega (arith, few, inv.weight) };
      as_far = inv.as_far;
    }
