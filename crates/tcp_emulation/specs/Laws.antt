-- Not of the headline. What the tables say, in the words of the subject.
use Rattle.std.specs.Prelude.{◌≡◌, ◌≢◌, Bool, true, false, ◌&&◌, not, IsTrue, if◌then◌else◌}
use Rattle.tcp_emulation.specs.declared.state.State.{State}
use Rattle.tcp_emulation.specs.declared.state.State.TheVariants.{Closed, SynSent, Established, TimeWait}
use Rattle.tcp_emulation.specs.declared.segment.Side.{Side}
use Rattle.tcp_emulation.specs.declared.segment.SegFacts.{SegFacts}
use Rattle.tcp_emulation.specs.declared.ends.Ends.{Ends}
use Rattle.tcp_emulation.specs.States.{other}
use Rattle.tcp_emulation.specs.Ends.{sent_state, received_state, end_at, ends_after_send, ends_after_receive, are_over}

-- the segment opens an end: a SYN without ACK and RST, the first SYN that this end sends
abbrev pub is_opening : SegFacts → Bool → Bool
is_opening f has_sent_syn = f.syn && not f.ack && not f.rst && not has_sent_syn

abbrev pub is_closed : State → Bool
is_closed Closed = true
is_closed _ = false

-- a CLOSED end that sends its opening SYN goes to SYN_SENT, and nothing else moves a CLOSED end
abbrev pub LeavesClosedByOpening : Type 0
LeavesClosedByOpening = (f : SegFacts) (has_sent_syn : Bool) →
    sent_state f has_sent_syn Closed ≡ (if is_opening f has_sent_syn then SynSent else Closed)

abbrev pub StaysClosedAsReceiver : Type 0
StaysClosedAsReceiver = (f : SegFacts) → received_state f Closed ≡ Closed

-- an end comes to ESTABLISHED only by receiving a segment that acknowledges its SYN
abbrev pub EstablishedByAcknowledgement : Type 0
EstablishedByAcknowledgement = (f : SegFacts) (s : State) →
    s ≢ Established → received_state f s ≡ Established → IsTrue (f.ack && f.acks_syn && not f.rst)

abbrev pub NeverEstablishedBySending : Type 0
NeverEstablishedBySending = (f : SegFacts) (has_sent_syn : Bool) (s : State) →
    s ≢ Established → sent_state f has_sent_syn s ≢ Established

-- an RST outside the window changes nothing
abbrev pub IgnoresResetOutsideWindow : Type 0
IgnoresResetOutsideWindow = (side : Side) (f : SegFacts) (ends : Ends) →
    f.rst ≡ true → f.in_window ≡ false → ends_after_receive side f ends ≡ ends

-- a pair that is over is opened again by exactly the opening SYN of an end that is CLOSED
abbrev pub OverUntilOpening : Type 0
OverUntilOpening = (side : Side) (f : SegFacts) (ends : Ends) → are_over ends ≡ true →
    are_over (ends_after_send side f ends) ≡
    not (is_closed (end_at side ends).state && is_opening f (end_at side ends).has_sent_syn)

abbrev pub OverAfterReceive : Type 0
OverAfterReceive = (side : Side) (f : SegFacts) (ends : Ends) → are_over ends ≡ true →
    are_over (ends_after_receive side f ends) ≡ true

-- the segment is sent by one end and received by its peer, with nothing in between
abbrev pub ends_after_carry : Side → SegFacts → Ends → Ends
ends_after_carry from f ends = ends_after_receive (other from) f (ends_after_send from f ends)

-- a segment of an open connection: its own FIN, whether that is reached, and whether it acknowledges the peer's
abbrev pub segment_of : Bool → Bool → Bool → SegFacts
segment_of fin fin_reached acks_fin = record {
  syn = false;
  ack = true;
  fin = fin;
  rst = false;
  acks_syn = true;
  acks_fin = acks_fin;
  in_window = true;
  fin_reached = fin_reached;
}

abbrev pub first_fin : SegFacts
first_fin = segment_of true true false

abbrev pub last_fin : SegFacts
last_fin = segment_of true true true

abbrev pub ack_of_fin : SegFacts
ack_of_fin = segment_of false false true

abbrev pub last_ack : SegFacts
last_ack = segment_of false true true

-- two ESTABLISHED ends
abbrev pub open_ends : Bool → Bool → Ends
open_ends client_sent_syn server_sent_syn = record {
  client = record { state = Established; has_sent_syn = client_sent_syn };
  server = record { state = Established; has_sent_syn = server_sent_syn };
}

-- one end sends its FIN, the peer acknowledges it, sends its own FIN and gets the last ACK
abbrev pub ends_after_close : Side → Ends → Ends
ends_after_close first ends =
    let asked = ends_after_carry first first_fin ends in
    let half_closed = ends_after_carry (other first) ack_of_fin asked in
    let answered = ends_after_carry (other first) last_fin half_closed in
    ends_after_carry first last_ack answered

-- the same, where the peer's FIN acknowledges the first one
abbrev pub ends_after_short_close : Side → Ends → Ends
ends_after_short_close first ends =
    let asked = ends_after_carry first first_fin ends in
    let answered = ends_after_carry (other first) last_fin asked in
    ends_after_carry first last_ack answered

-- both send their FIN before either receives the other's, and then both acknowledge
abbrev pub ends_after_simultaneous_close : Side → Ends → Ends
ends_after_simultaneous_close first ends =
    let both_sent = ends_after_send (other first) first_fin (ends_after_send first first_fin ends) in
    let both_reached = ends_after_receive first first_fin (ends_after_receive (other first) first_fin both_sent) in
    ends_after_carry (other first) last_ack (ends_after_carry first last_ack both_reached)

-- the peer receives the first FIN before it sends its own, which doesn't acknowledge it
abbrev pub ends_after_crossing_close : Side → Ends → Ends
ends_after_crossing_close first ends =
    let both_reached = ends_after_carry (other first) first_fin (ends_after_carry first first_fin ends) in
    ends_after_carry (other first) last_ack (ends_after_carry first last_ack both_reached)

-- the connection is over, the end on this side is left in TIME_WAIT, and its peer in `last`
pub record IsClosedBy (side : Side) (last : State) (ends : Ends) : Type 0 where
  pub over : are_over ends ≡ true
  pub closer : (end_at side ends).state ≡ TimeWait
  pub peer : (end_at (other side) ends).state ≡ last

-- a close of two ESTABLISHED ends, by whichever end begins it, closes the connection
abbrev pub Closes : (Side → Ends → Ends) → State → Type 0
Closes close last = (side : Side) (client_sent_syn server_sent_syn : Bool) →
    IsClosedBy side last (close side (open_ends client_sent_syn server_sent_syn))
