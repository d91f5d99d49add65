-- The phase of the receiver, put together from its parts.
use Rattle.std.proofs.Common.{◌≡◌, ◌∙◌, ap, refl, subst, ℕ, List, Bool, nat_lt, not, ◌&&◌}
use Rattle.packet_views.specs.declared.packet.Head.{Head}
use Rattle.tcp_emulation.specs.declared.segment.Side.{Side}
use Rattle.tcp_emulation.specs.declared.segment.Side.TheVariants.{Client, Server}
use Rattle.tcp_emulation.specs.declared.segment.SegFacts.{SegFacts}
use Rattle.tcp_emulation.specs.declared.segment.Change.{Change}
use Rattle.tcp_emulation.specs.States.{other}
use Rattle.tcp_emulation.specs.Ends.{end_at, ends_after_receive, change_of}
use Rattle.reassembly.specs.declared.answers.Placed.{Placed}
use Rattle.flow_socket.specs.declared.answers.Got.{Got}
use Rattle.packet_views.specs.Flags.{has_rst}
use Rattle.flow_socket.specs.View.{SocketView, SocketStandsFor, next_at}
use Rattle.flow_socket.specs.Direction.{Direction, next_in, acks_syn, acks_fin, is_in_window, is_finished}
use Rattle.flow_socket.specs.Emulation.{Emulation, fault_bits, received, facts_of, received_facts, ends_received, direction_of, with_direction, taken_by}
use Rattle.flow_socket.proofs.Sides.{direction_of-with_direction}

-- the connection after the packet's direction took it
abbrev pub with_taken : Side → Head → List ℕ → Emulation → Emulation
with_taken from h payload e = with_direction from (taken_by from h payload e) e

pub ends-with_direction : (from : Side) (d : Direction) (e : Emulation) → (with_direction from d e).ends ≡ e.ends
ends-with_direction Client d e = refl
ends-with_direction Server d e = refl

pub next_is : (from : Side) (s : SocketView) (e : Emulation) → SocketStandsFor s e → next_at from s ≡ next_in (direction_of from e)
next_is Client s e stands = stands.client.stream.next
next_is Server s e stands = stands.server.stream.next

-- what the receiver's step reads, part by part
pub facts_are : (from : Side) (h : Head) (payload : List ℕ) (e : Emulation) (of : Side) (syn fin window finished : Bool) (facts : SegFacts) →
    of ≡ other from → facts ≡ facts_of h syn fin window finished →
    syn ≡ acks_syn h.ack (direction_of of e) → fin ≡ acks_fin h.ack (direction_of of e) →
    window ≡ is_in_window e.rbuf h (direction_of from e) →
    finished ≡ is_finished (direction_of from (with_taken from h payload e)) →
    facts ≡ received_facts from h payload e
facts_are from h payload e of syn fin window finished facts same_side same_facts same_syn same_fin same_window same_finished =
    same_facts
    ∙ (ap (λ b. facts_of h b fin window finished) (same_syn ∙ ap (λ side. acks_syn h.ack (direction_of side e)) same_side)
    ∙ (ap (λ b. facts_of h (acks_syn h.ack (direction_of (other from) e)) b window finished) (same_fin ∙ ap (λ side. acks_fin h.ack (direction_of side e)) same_side)
    ∙ (ap (λ b. facts_of h (acks_syn h.ack (direction_of (other from) e)) (acks_fin h.ack (direction_of (other from) e)) b finished) same_window
    ∙ ap (λ b. facts_of h (acks_syn h.ack (direction_of (other from) e)) (acks_fin h.ack (direction_of (other from) e)) (is_in_window e.rbuf h (direction_of from e)) b)
    (same_finished ∙ ap is_finished (direction_of-with_direction from (taken_by from h payload e) e)))))

pub ends_are : (from : Side) (h : Head) (payload : List ℕ) (e : Emulation) (of : Side) (facts : SegFacts) →
    of ≡ other from → facts ≡ received_facts from h payload e →
    ends_after_receive of facts (with_taken from h payload e).ends ≡ ends_received from h payload e
ends_are from h payload e of facts same_side same_facts =
    ap (λ side. ends_after_receive side facts (with_taken from h payload e).ends) same_side
    ∙ (ap (λ f. ends_after_receive (other from) f (with_taken from h payload e).ends) same_facts
    ∙ ap (λ ends. ends_after_receive (other from) (received_facts from h payload e) ends) (ends-with_direction from (taken_by from h payload e) e))

pub received_stands : (new : SocketView) (from : Side) (h : Head) (payload : List ℕ) (e : Emulation) (of : Side) (facts : SegFacts) →
    of ≡ other from → facts ≡ received_facts from h payload e →
    SocketStandsFor new (record (with_taken from h payload e) { ends = ends_after_receive of facts (with_taken from h payload e).ends }) →
    SocketStandsFor new (received from h payload e)
unfolding received
received_stands new from h payload e of facts same_side same_facts stands =
    subst (λ ends. SocketStandsFor new (record (with_taken from h payload e) { ends = ends })) (ends_are from h payload e of facts same_side same_facts) stands

pub change_is : (from : Side) (h : Head) (payload : List ℕ) (e : Emulation) (of : Side) (facts : SegFacts) (change : Change) →
    of ≡ other from → facts ≡ received_facts from h payload e →
    change ≡ change_of (end_at of (with_taken from h payload e).ends) (end_at of (ends_after_receive of facts (with_taken from h payload e).ends)) →
    change ≡ change_of (end_at (other from) e.ends) (end_at (other from) (ends_received from h payload e))
change_is from h payload e of facts change same_side same_facts is =
    is
    ∙ (ap (λ ends. change_of (end_at of (with_taken from h payload e).ends) (end_at of ends)) (ends_are from h payload e of facts same_side same_facts)
    ∙ (ap (λ ends. change_of (end_at of ends) (end_at of (ends_received from h payload e))) (ends-with_direction from (taken_by from h payload e) e)
    ∙ ap (λ side. change_of (end_at side e.ends) (end_at side (ends_received from h payload e))) same_side))

pub direction_of-received : (from : Side) (h : Head) (payload : List ℕ) (e : Emulation) → direction_of from (received from h payload e) ≡ taken_by from h payload e
unfolding received
direction_of-received Client h payload e = refl
direction_of-received Server h payload e = refl

-- an answer is its parts
pub got_is : (got : Got) (change : Change) (placed : Placed) (fault : ℕ) (rose : Bool) (next : ℕ) (over : Bool) →
    change ≡ got.change → placed ≡ got.placed → fault ≡ got.fault → rose ≡ got.rose → next ≡ got.next → over ≡ got.over →
    record { change = change; placed = placed; fault = fault; rose = rose; next = next; over = over } ≡ got
got_is got change placed fault rose next over same_change same_placed same_fault same_rose same_next same_over =
    let made : Change → Placed → ℕ → Bool → ℕ → Bool → Got =
    λ c p f r n o. record { change = c; placed = p; fault = f; rose = r; next = n; over = o } in
    ap (λ c. made c placed fault rose next over) same_change
    ∙ (ap (λ p. made got.change p fault rose next over) same_placed
    ∙ (ap (λ f. made got.change got.placed f rose next over) same_fault
    ∙ (ap (λ r. made got.change got.placed got.fault r next over) same_rose
    ∙ (ap (λ n. made got.change got.placed got.fault got.rose n over) same_next
    ∙ ap (λ o. made got.change got.placed got.fault got.rose got.next o) same_over))))

pub fault_is : (h : Head) (placed placed' : Placed) (window window' refused refused' : Bool) →
    placed ≡ placed' → window ≡ window' → refused ≡ refused' →
    fault_bits (nat_lt 0 placed.over) (has_rst h && not window) refused ≡ fault_bits (nat_lt 0 placed'.over) (has_rst h && not window') refused'
fault_is h placed placed' window window' refused refused' same_placed same_window same_refused =
    ap (λ p. fault_bits (nat_lt 0 p.over) (has_rst h && not window) refused) same_placed
    ∙ (ap (λ w. fault_bits (nat_lt 0 placed'.over) (has_rst h && not w) refused) same_window
    ∙ ap (λ r. fault_bits (nat_lt 0 placed'.over) (has_rst h && not window') r) same_refused)
