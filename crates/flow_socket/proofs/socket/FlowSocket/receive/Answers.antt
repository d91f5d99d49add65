-- The packet's direction takes it, and then the receiver steps by facts that are those of the definition.
use Rattle.std.proofs.Common.{◌≡◌, ◌∙◌, ap, nat_lt}
use Rattle.flow_socket.specs.View.{SocketStandsFor}
use Rattle.flow_socket.specs.Direction.{next_in, is_in_window, is_fin_refused}
use Rattle.flow_socket.specs.Emulation.{Emulation, received, got_of, received_facts, direction_of, taken_by}
use Rattle.flow_socket.proofs.Phases.{facts_are, received_stands, change_is, next_is, direction_of-received, got_is, fault_is}
use Rattle.flow_socket.proofs.socket.FlowSocket.receive.Goals as goal

facts : (c : goal.After-is_over) (e : Emulation) → SocketStandsFor c.args.self.now e →
    c.facts_of-facts.result ≡ received_facts c.args.from c.args.h.now c.args.payload.now e
facts c e s =
    facts_are c.args.from c.args.h.now c.args.payload.now e c.other.result c.acks-acks.result.syn c.acks-acks.result.fin c.in_ok-taken.taken.in_window c.is_finished.result c.facts_of-facts.result
    c.other.ensures c.facts_of-facts.ensures (c.acks-acks.ensures.syn e s) (c.acks-acks.ensures.fin e s) (c.in_ok-taken.ensures.window e s)
    (c.is_finished.ensures _ (c.in_ok-taken.ensures.stands e s))

pub returns-clause-stands : goal.returns-clause-stands
returns-clause-stands c e s =
    received_stands _ c.args.from c.args.h.now c.args.payload.now e c.other-2.result c.facts_of-facts.result c.other-2.ensures (facts c e s)
    (c.step_receiver-change.ensures.stands _ (c.in_ok-taken.ensures.stands e s))

next_before : (c : goal.After-is_over) (e : Emulation) → SocketStandsFor c.args.self.now e → c.next-before.result ≡ next_in (direction_of c.args.from e)
next_before c e s = c.next-before.ensures ∙ (ap (λ k. k.next) c.stream.ensures.known ∙ next_is c.args.from c.args.self.now e s)

next_after : (c : goal.After-is_over) (e : Emulation) → SocketStandsFor c.args.self.now e →
    c.next-next.result ≡ next_in (taken_by c.args.from c.args.h.now c.args.payload.now e)
next_after c e s =
    c.next-next.ensures
    ∙ (ap (λ k. k.next) c.stream-2.ensures.known
    ∙ (next_is c.args.from c.step_receiver-change.new.self (received c.args.from c.args.h.now c.args.payload.now e) (returns-clause-stands c e s)
    ∙ ap next_in (direction_of-received c.args.from c.args.h.now c.args.payload.now e)))

pub returns-clause-answer : goal.returns-clause-answer
unfolding received got_of
returns-clause-answer c e s =
    got_is (got_of c.args.from c.args.h.now c.args.payload.now e)
    c.step_receiver-change.result c.in_ok-taken.taken.placed c.fault_of.result (nat_lt c.next-before.result c.next-next.result) c.next-next.result c.is_over.result
    (change_is c.args.from c.args.h.now c.args.payload.now e c.other-2.result c.facts_of-facts.result c.step_receiver-change.result c.other-2.ensures (facts c e s)
    (c.step_receiver-change.ensures.change _ (c.in_ok-taken.ensures.stands e s)))
    (c.in_ok-taken.ensures.placed e s)
    (c.fault_of.ensures ∙ fault_is c.args.h.now c.in_ok-taken.taken.placed (got_of c.args.from c.args.h.now c.args.payload.now e).placed
    c.in_ok-taken.taken.in_window (is_in_window e.rbuf c.args.h.now (direction_of c.args.from e))
    c.in_ok-taken.taken.fin_refused (is_fin_refused e.rbuf e.policy c.args.h.now c.args.payload.now (direction_of c.args.from e))
    (c.in_ok-taken.ensures.placed e s) (c.in_ok-taken.ensures.window e s) (c.in_ok-taken.ensures.refused e s))
    (ap (λ n. nat_lt n c.next-next.result) (next_before c e s) ∙ ap (nat_lt (next_in (direction_of c.args.from e))) (next_after c e s))
    (next_after c e s)
    (c.is_over.ensures _ (returns-clause-stands c e s))
