-- The packet's direction takes it, and no end changes.
use Rattle.std.proofs.Common.{◌≡◌, ◌∙◌, ap, nat_lt}
use Rattle.tcp_emulation.specs.declared.state.State.TheVariants.{Established}
use Rattle.flow_socket.specs.View.{SocketStandsFor}
use Rattle.flow_socket.specs.Direction.{next_in}
use Rattle.flow_socket.specs.Emulation.{Emulation, received, got_of, direction_of, taken_by}
use Rattle.flow_socket.proofs.Phases.{next_is, direction_of-received, got_is}
use Rattle.flow_socket.proofs.PlainSegments.{quiet_stands, quiet_change, quiet_over, quiet_fault}
use Rattle.flow_socket.proofs.socket.FlowSocket.receive_quiet.Goals as goal

pub returns-clause-stands : goal.returns-clause-stands
returns-clause-stands c e s =
    quiet_stands _ c.args.from c.args.h.now c.args.payload.now e (c.requires.quiet e s) (c.in_ok-taken.ensures.stands e s)

next_before : (c : goal.After-fault_over) (e : Emulation) → SocketStandsFor c.args.self.now e → c.next-before.result ≡ next_in (direction_of c.args.from e)
next_before c e s = c.next-before.ensures ∙ (ap (λ k. k.next) c.stream.ensures.known ∙ next_is c.args.from c.args.self.now e s)

next_after : (c : goal.After-fault_over) (e : Emulation) → SocketStandsFor c.args.self.now e →
    c.next-next.result ≡ next_in (taken_by c.args.from c.args.h.now c.args.payload.now e)
next_after c e s =
    c.next-next.ensures
    ∙ (ap (λ k. k.next) c.stream-2.ensures.known
    ∙ (next_is c.args.from c.take.new.self (received c.args.from c.args.h.now c.args.payload.now e) (returns-clause-stands c e s)
    ∙ ap next_in (direction_of-received c.args.from c.args.h.now c.args.payload.now e)))

pub returns-clause-answer : goal.returns-clause-answer
unfolding received got_of
returns-clause-answer c e s =
    let quiet = c.requires.quiet e s in
    got_is (got_of c.args.from c.args.h.now c.args.payload.now e)
    (record { old = Established; new = Established }) c.in_ok-taken.taken.placed c.fault_over.result (nat_lt c.next-before.result c.next-next.result) c.next-next.result _
    (quiet_change c.args.from c.args.h.now c.args.payload.now e quiet)
    (c.in_ok-taken.ensures.placed e s)
    (c.fault_over.ensures ∙ quiet_fault c.args.from c.args.h.now c.args.payload.now e _ _ quiet (ap (λ p. p.over) (c.in_ok-taken.ensures.placed e s)))
    (ap (λ n. nat_lt n c.next-next.result) (next_before c e s) ∙ ap (nat_lt (next_in (direction_of c.args.from e))) (next_after c e s))
    (next_after c e s)
    (quiet_over c.args.from c.args.h.now c.args.payload.now e quiet)
