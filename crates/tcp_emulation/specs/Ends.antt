-- The two ends of a connection, stepped by the tables of `States`.
use Rattle.std.specs.Prelude.{Bool, false, ◌&&◌, ◌||◌, not, if◌then◌else◌}
use Rattle.tcp_emulation.specs.declared.state.State.{State}
use Rattle.tcp_emulation.specs.declared.state.State.TheVariants.{Closed, Listen}
use Rattle.tcp_emulation.specs.declared.segment.Side.{Side}
use Rattle.tcp_emulation.specs.declared.segment.Side.TheVariants.{Client, Server}
use Rattle.tcp_emulation.specs.declared.segment.SegFacts.{SegFacts}
use Rattle.tcp_emulation.specs.declared.segment.Change.{Change}
use Rattle.tcp_emulation.specs.declared.ends.End.{End}
use Rattle.tcp_emulation.specs.declared.ends.Ends.{Ends}
use Rattle.tcp_emulation.specs.States.{opening_syn_sent, syn_ack_sent, fin_sent, syn_received, syn_ack_received, syn_acknowledged, fin_acknowledged, fin_reached, is_done}

-- the state after a rule, which is read where its condition holds
abbrev pub after_rule : Bool → (State → State) → State → State
after_rule holds rule s = if holds then rule s else s

-- the state of an end after it sent the segment: its rules in order, each on the state that the one before left
abbrev pub sent_state : SegFacts → Bool → State → State
sent_state f has_sent_syn s =
    if f.rst then Closed else
    (let opened = after_rule (f.syn && not f.ack && not has_sent_syn) opening_syn_sent s in
    let answered = after_rule (f.syn && f.ack) syn_ack_sent opened in
    after_rule f.fin fin_sent answered)

-- the state of an end after it received the segment, in the same way; an RST out of the window changes nothing
abbrev pub received_state : SegFacts → State → State
received_state f s =
    if f.rst then (if f.in_window then Closed else s) else
    (let asked = after_rule (f.syn && not f.ack) syn_received s in
    let answered = after_rule (f.syn && f.ack && f.acks_syn) syn_ack_received asked in
    let opened = after_rule (f.ack && f.acks_syn) syn_acknowledged answered in
    let closed = after_rule (f.ack && f.acks_fin) fin_acknowledged opened in
    after_rule f.fin_reached fin_reached closed)

-- an end after it sent the segment: each SYN counts as sent, also one with RST
abbrev pub end_sent : SegFacts → End → End
end_sent f e = record { state = sent_state f e.has_sent_syn e.state; has_sent_syn = e.has_sent_syn || f.syn }

-- an end after it received the segment
abbrev pub end_received : SegFacts → End → End
end_received f e = record { state = received_state f e.state; has_sent_syn = e.has_sent_syn }

abbrev pub end_at : Side → Ends → End
end_at Client ends = ends.client
end_at Server ends = ends.server

-- the pair with another end on one side
abbrev pub with_end : Side → End → Ends → Ends
with_end Client e ends = record { client = e; server = ends.server }
with_end Server e ends = record { client = ends.client; server = e }

-- the pair before the first segment
abbrev pub fresh_ends : Ends
fresh_ends = record {
  client = record { state = Closed; has_sent_syn = false };
  server = record { state = Listen; has_sent_syn = false };
}

-- the pair after the end on this side sent, or received, the segment; its peer stays
abbrev pub ends_after_send : Side → SegFacts → Ends → Ends
ends_after_send side f ends = with_end side (end_sent f (end_at side ends)) ends

abbrev pub ends_after_receive : Side → SegFacts → Ends → Ends
ends_after_receive side f ends = with_end side (end_received f (end_at side ends)) ends

-- what a step answers
abbrev pub change_of : End → End → Change
change_of old new = record { old = old.state; new = new.state }

-- both ends are CLOSED or TIME_WAIT
abbrev pub are_over : Ends → Bool
are_over ends = is_done ends.client.state && is_done ends.server.state
