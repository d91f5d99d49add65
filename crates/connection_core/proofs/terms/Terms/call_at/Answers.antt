use Rattle.std.proofs.lemmas.Result.{on_ok_weaker}
use Rattle.connection_core.specs.InForce.{registered}
use Rattle.connection_core.specs.Trees.{active_in}
use Rattle.connection_core.specs.Standing.{raise_of}
use Rattle.connection_core.proofs.Earlier.{known_in}
use Rattle.connection_core.proofs.Callbacks.{calls_one}
use Rattle.connection_core.proofs.Settling.{under_room}
use Rattle.connection_core.proofs.Unheard.{calls_nothing}
use Rattle.builtin_events.specs.Source.{facts_of}
use Rattle.connection_core.proofs.terms.Terms.call_at.Goals as goal

-- nobody hears it
pub returns-in-Nobody-clause-stands : goal.returns-in-Nobody-clause-stands
returns-in-Nobody-clause-stands g c = λ s force.
    let m = c.args.raise_at.now in
    calls_nothing (g.A.App.meaning c.args.self.now.app.now) s c.args.self.now.keep (active_in (registered c.args.self.now.in_force) c.args.tree.now) m.number m.from (raise_of m)
    c.args.socket.now c.args.notes.now c.args.ledger.now (c.hearers.ensures.nobody c.in-Nobody.is s (facts_of m.source) force)

-- one registration alone
pub returns-in-One-clause-stands : goal.returns-in-One-clause-stands
returns-in-One-clause-stands g c =
    on_ok_weaker c.call_number.result (λ all. λ s force.
    let m = c.args.raise_at.now in
    let lent = c.args.self.now.in_force in
    let list = active_in (registered lent) c.args.tree.now in
    let known = known_in (registered lent) s.regs list force.regs c.requires.ready.forest.private.numbers c.requires.ready.forest.known in
    calls_one (g.A.App.meaning c.args.self.now.app.now) s c.args.self.now.keep list m.number m.from (raise_of m)
    c.args.socket.now c.call_number.new.socket c.args.notes.now c.call_number.new.notes c.args.ledger.now c.call_number.new.ledger c.in-One.number known
    (c.hearers.ensures.one c.in-One.number c.in-One.is s (facts_of m.source) force) (all list s force))
    c.call_number.ensures.stands

-- more of them
pub returns-in_ok-make_room-in-More-clause-stands : goal.returns-in_ok-make_room-in-More-clause-stands
returns-in_ok-make_room-in-More-clause-stands g c =
    on_ok_weaker c.walk.result (λ all. λ s force. record {
      stands = λ others under_way u.
          (all s force).stands others under_way
          (under_room c.args.self.now.keep others (active_in (registered c.args.self.now.in_force) c.args.tree.now) c.args.socket.now c.args.notes.now c.args.ledger.now c.make_room.new.self under_way
          c.make_room.ensures u);
    })
    c.walk.ensures.stands
