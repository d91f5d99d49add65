-- A quiet packet changes no end, and its answer says so.
use Rattle.std.proofs.Common.{◌≡◌, ◌∙◌, ap, refl, subst, sym, ℕ, List, Bool, true, false, nat_lt, ◌&&◌, not}
use Rattle.packet_views.specs.declared.packet.Head.{Head}
use Rattle.packet_views.specs.Flags.{has_fin, has_rst}
use Rattle.tcp_emulation.specs.declared.segment.Side.{Side}
use Rattle.tcp_emulation.specs.declared.segment.Side.TheVariants.{Client, Server}
use Rattle.tcp_emulation.specs.declared.segment.SegFacts.{SegFacts}
use Rattle.tcp_emulation.specs.declared.state.State.{State}
use Rattle.tcp_emulation.specs.declared.state.State.TheVariants.{Established}
use Rattle.tcp_emulation.specs.declared.ends.End.{End}
use Rattle.tcp_emulation.specs.declared.ends.Ends.{Ends}
use Rattle.tcp_emulation.specs.States.{other, is_done, syn_acknowledged, fin_acknowledged}
use Rattle.tcp_emulation.specs.Ends.{after_rule, end_at, received_state, end_received as received_end, ends_after_receive, change_of, are_over}
use Rattle.reassembly.specs.declared.answers.Policy.{Policy}
use Rattle.reassembly.specs.Fin.{is_fin_reached}
use Rattle.reassembly.specs.Segment.{accept}
use Rattle.flow_socket.specs.Segment.{with_payload}
use Rattle.flow_socket.specs.View.{SocketView, SocketStandsFor}
use Rattle.flow_socket.specs.Direction.{Direction, next_in, receiver_after, is_finished, is_in_window, is_fin_refused}
use Rattle.flow_socket.specs.Emulation.{Emulation, fault_bits, received, received_facts, ends_received, direction_of, taken_by}
use Rattle.flow_socket.specs.Quiet.{IsQuiet}
use Rattle.flow_socket.proofs.Phases.{with_taken, ends-with_direction}

-- neither ACK rule moves an ESTABLISHED end
stays : (f : SegFacts) → f.syn ≡ false → f.rst ≡ false → f.fin_reached ≡ false → received_state f Established ≡ Established
stays f syn rst reached = rw (syn, rst, reached) (opened (f.ack && f.acks_syn) (f.ack && f.acks_fin))
  where
    opened : (a b : Bool) → after_rule b fin_acknowledged (after_rule a syn_acknowledged Established) ≡ Established
    opened true true = refl
    opened true false = refl
    opened false true = refl
    opened false false = refl

end-stays : (f : SegFacts) (x : End) → f.syn ≡ false → f.rst ≡ false → f.fin_reached ≡ false → x.state ≡ Established → received_end f x ≡ x
end-stays f x syn rst reached up =
    let same : received_state f x.state ≡ x.state = ap (received_state f) up ∙ (stays f syn rst reached ∙ sym up) in
    ap (λ (s : State). record { state = s; has_sent_syn = x.has_sent_syn }) same

ends-stay : (of : Side) (f : SegFacts) (ends : Ends) → f.syn ≡ false → f.rst ≡ false → f.fin_reached ≡ false → (end_at of ends).state ≡ Established
    → ends_after_receive of f ends ≡ ends
ends-stay Client f ends syn rst reached up = ap (λ (x : End). record { client = x; server = ends.server }) (end-stays f ends.client syn rst reached up)
ends-stay Server f ends syn rst reached up = ap (λ (x : End). record { client = ends.client; server = x }) (end-stays f ends.server syn rst reached up)

-- the payload alone notes no FIN
fin-stays : (rbuf : ℕ) (policy : Policy) (h : Head) (payload : List ℕ) (d : Direction) → has_fin h ≡ false → has_rst h ≡ false
    → (receiver_after rbuf policy h payload d).fin ≡ d.receiver.fin
unfolding with_payload accept
fin-stays rbuf policy h payload d fin rst = rw (rst, fin) refl

unreached : (from : Side) (h : Head) (payload : List ℕ) (e : Emulation) → IsQuiet from h e → is_finished (taken_by from h payload e) ≡ false
unreached from h payload e quiet =
    ap (is_fin_reached (next_in (taken_by from h payload e))) (fin-stays e.rbuf e.policy h payload (direction_of from e) quiet.fin quiet.rst ∙ quiet.unfinished)

pub quiet_ends : (from : Side) (h : Head) (payload : List ℕ) (e : Emulation) → IsQuiet from h e → ends_received from h payload e ≡ e.ends
quiet_ends from h payload e quiet =
    ends-stay (other from) (received_facts from h payload e) e.ends quiet.syn quiet.rst (unreached from h payload e quiet) quiet.established

pub quiet_stands : (new : SocketView) (from : Side) (h : Head) (payload : List ℕ) (e : Emulation) → IsQuiet from h e
    → SocketStandsFor new (with_taken from h payload e) → SocketStandsFor new (received from h payload e)
unfolding received
quiet_stands new from h payload e quiet stands =
    subst (λ (ends : Ends). SocketStandsFor new (record (with_taken from h payload e) { ends = ends }))
    (ends-with_direction from (taken_by from h payload e) e ∙ sym (quiet_ends from h payload e quiet)) stands

pub quiet_change : (from : Side) (h : Head) (payload : List ℕ) (e : Emulation) → IsQuiet from h e
    → record { old = Established; new = Established } ≡ change_of (end_at (other from) e.ends) (end_at (other from) (ends_received from h payload e))
quiet_change from h payload e quiet =
    ap (λ (s : State). record { old = s; new = s }) (sym quiet.established)
    ∙ ap (λ (ends : Ends). change_of (end_at (other from) e.ends) (end_at (other from) ends)) (sym (quiet_ends from h payload e quiet))

-- an ESTABLISHED end isn't done
still_open : (of : Side) (ends : Ends) → (end_at of ends).state ≡ Established → are_over ends ≡ false
still_open Client ends up = ap (λ (s : State). is_done s && is_done ends.server.state) up
still_open Server ends up = ap (λ (s : State). is_done ends.client.state && is_done s) up ∙ none (is_done ends.client.state)
  where
    none : (b : Bool) → (b && false) ≡ false
    none true = refl
    none false = refl

pub quiet_over : (from : Side) (h : Head) (payload : List ℕ) (e : Emulation) → IsQuiet from h e → false ≡ are_over (ends_received from h payload e)
quiet_over from h payload e quiet = sym (ap are_over (quiet_ends from h payload e quiet) ∙ still_open (other from) e.ends quiet.established)

pub quiet_fault : (from : Side) (h : Head) (payload : List ℕ) (e : Emulation) (over over' : ℕ) → IsQuiet from h e → over ≡ over'
    → fault_bits (nat_lt 0 over) false false
    ≡ fault_bits (nat_lt 0 over') (has_rst h && not (is_in_window e.rbuf h (direction_of from e))) (is_fin_refused e.rbuf e.policy h payload (direction_of from e))
quiet_fault from h payload e over over' quiet same =
    let out : (has_rst h && not (is_in_window e.rbuf h (direction_of from e))) ≡ false = ap (λ (b : Bool). b && not (is_in_window e.rbuf h (direction_of from e))) quiet.rst in
    let taken : is_fin_refused e.rbuf e.policy h payload (direction_of from e) ≡ false = rw (quiet.rst, quiet.fin) refl in
    rw (out, taken, same) refl
