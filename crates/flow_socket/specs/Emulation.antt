-- The emulated connection: both ends with their shifts, both directions and the last packet that was sent, and what the two
-- phases of a packet do to them.
use Rattle.std.specs.Prelude.{ℕ, ◌+◌, Bool, false, not, ◌&&◌, nat_lt, List, Option, Some, None, if◌then◌else◌}
use Rattle.packet_views.specs.declared.packet.Head.{Head}
use Rattle.tcp_emulation.specs.declared.segment.Side.{Side}
use Rattle.tcp_emulation.specs.declared.segment.Side.TheVariants.{Client, Server}
use Rattle.tcp_emulation.specs.declared.segment.SegFacts.{SegFacts}
use Rattle.tcp_emulation.specs.declared.ends.Ends.{Ends}
use Rattle.tcp_emulation.specs.States.{other}
use Rattle.tcp_emulation.specs.Ends.{fresh_ends, end_at, ends_after_send, ends_after_receive, change_of, are_over}
use Rattle.reassembly.specs.declared.answers.Policy.{Policy}
use Rattle.flow_socket.specs.declared.answers.Sent.{Sent}
use Rattle.flow_socket.specs.declared.answers.Got.{Got}
use Rattle.flow_socket.specs.declared.shifts.Shifts.{Shifts}
use Rattle.packet_views.specs.Flags.{has_syn, has_ack, has_fin, has_rst}
use Rattle.flow_socket.specs.Direction.{Direction, untouched, next_in, direction_after, is_in_window, is_finished, acks_syn, acks_fin, placed_in, is_fin_refused, offered_in}
use Rattle.flow_socket.specs.Windows.{no_shifts, shifts_after, window_of, makes_offer}

-- a direction is named by its sender
pub record Emulation : Type 0 where
  pub ends : Ends
  pub shifts : Shifts
  pub client : Direction
  pub server : Direction
  pub last : Option Head
  pub rbuf : ℕ
  pub policy : Policy

-- the connection before its first packet
abbrev pub fresh_emulation : ℕ → Policy → Emulation
fresh_emulation rbuf policy = record {
  ends = fresh_ends;
  shifts = no_shifts;
  client = untouched;
  server = untouched;
  last = None;
  rbuf = rbuf;
  policy = policy;
}

abbrev pub direction_of : Side → Emulation → Direction
direction_of Client e = e.client
direction_of Server e = e.server

abbrev pub with_direction : Side → Direction → Emulation → Emulation
with_direction Client d e = record e { client = d }
with_direction Server d e = record e { server = d }

-- what a step of an end reads of a packet
abbrev pub facts_of : Head → Bool → Bool → Bool → Bool → SegFacts
facts_of h acks_syn acks_fin in_window fin_reached = record {
  syn = has_syn h;
  ack = has_ack h;
  fin = has_fin h;
  rst = has_rst h;
  acks_syn = acks_syn;
  acks_fin = acks_fin;
  in_window = in_window;
  fin_reached = fin_reached;
}

-- Phase S: the sender's step, which reads the flags alone, and the offer of the packet's window.
abbrev pub sent_facts : Head → SegFacts
sent_facts h = facts_of h false false false false

-- the connection after that step: the shifts are read by the ends from before it
abbrev pub stepped : Side → Head → Option ℕ → Emulation → Emulation
stepped from h scale e = record e {
  ends = ends_after_send from (sent_facts h) e.ends;
  shifts = shifts_after from h scale e.ends e.shifts;
  last = Some h;
}

-- The packet's window is what its sender offers as a receiver, so on the direction of the other end. The ends and the shifts
-- are those after the step.
abbrev pub with_offer : Side → Head → Emulation → Emulation
with_offer from h e =
    let size = window_of from h e.shifts in
    if makes_offer h e.ends then with_direction (other from) (offered_in h.ack size (direction_of (other from) e)) e else e

unfoldable pub sent : Side → Head → Option ℕ → Emulation → Emulation
sent from h scale e = with_offer from h (stepped from h scale e)

-- what phase S answers: the sender's change, and next of the packet's direction
unfoldable pub sent_answer : Side → Head → Emulation → Sent
sent_answer from h e = record {
  change = change_of (end_at from e.ends) (end_at from (ends_after_send from (sent_facts h) e.ends));
  next = next_in (direction_of from e);
}

-- Phase R: the packet's direction takes it, and then the receiver steps.
abbrev pub taken_by : Side → Head → List ℕ → Emulation → Direction
taken_by from h payload e = direction_after e.rbuf e.policy h payload (direction_of from e)

abbrev pub received_facts : Side → Head → List ℕ → Emulation → SegFacts
received_facts from h payload e =
    facts_of h
    (acks_syn h.ack (direction_of (other from) e))
    (acks_fin h.ack (direction_of (other from) e))
    (is_in_window e.rbuf h (direction_of from e))
    (is_finished (taken_by from h payload e))

abbrev pub ends_received : Side → Head → List ℕ → Emulation → Ends
ends_received from h payload e = ends_after_receive (other from) (received_facts from h payload e) e.ends

unfoldable pub received : Side → Head → List ℕ → Emulation → Emulation
received from h payload e =
    record (with_direction from (taken_by from h payload e) e) { ends = ends_received from h payload e }

-- 1: bytes beyond the window or at or past the FIN; 2: an RST out of the window; 4: a refused FIN
abbrev pub fault_bits : Bool → Bool → Bool → ℕ
fault_bits are_over is_reset_out is_fin_refused =
    (if are_over then 1 else 0) + (if is_reset_out then 2 else 0) + (if is_fin_refused then 4 else 0)

-- what phase R answers: the receiver's change, how the bytes were judged, the faults, next of the packet's direction after it and
-- whether it rose, and whether the connection is over
unfoldable pub got_of : Side → Head → List ℕ → Emulation → Got
got_of from h payload e =
    let d = direction_of from e in
    let placed = placed_in e.rbuf h payload d in record {
      change = change_of (end_at (other from) e.ends) (end_at (other from) (ends_received from h payload e));
      placed = placed;
      fault = fault_bits (nat_lt 0 placed.over) (has_rst h && not (is_in_window e.rbuf h d)) (is_fin_refused e.rbuf e.policy h payload d);
      rose = nat_lt (next_in d) (next_in (taken_by from h payload e));
      next = next_in (taken_by from h payload e);
      over = are_over (ends_received from h payload e);
    }
