-- The lines of the state tables of RFC 9293, figure 5 and section 3.10: what each rule makes of a
-- state. A state that a rule doesn't list stays as it is.
use Rattle.std.specs.Prelude.{ℕ, Bool, true, false}
use Rattle.tcp_emulation.specs.declared.state.State.{State}
use Rattle.tcp_emulation.specs.declared.state.State.TheVariants.{Closed, Listen, SynSent, SynRcvd, Established, FinWait1, FinWait2, CloseWait, Closing, LastAck, TimeWait}
use Rattle.tcp_emulation.specs.declared.segment.Side.{Side}
use Rattle.tcp_emulation.specs.declared.segment.Side.TheVariants.{Client, Server}

-- the number of a state in events and reports
abbrev pub number_of : State → ℕ
number_of Closed = 0
number_of Listen = 1
number_of SynSent = 2
number_of SynRcvd = 3
number_of Established = 4
number_of FinWait1 = 5
number_of FinWait2 = 6
number_of CloseWait = 7
number_of Closing = 8
number_of LastAck = 9
number_of TimeWait = 10

-- the peer of an end
abbrev pub other : Side → Side
other Client = Server
other Server = Client

-- sent: the first SYN of this end, without ACK (active open)
abbrev pub opening_syn_sent : State → State
opening_syn_sent Closed = SynSent
opening_syn_sent s = s

-- sent: SYN and ACK (passive open)
abbrev pub syn_ack_sent : State → State
syn_ack_sent Listen = SynRcvd
syn_ack_sent s = s

-- sent: FIN (close)
abbrev pub fin_sent : State → State
fin_sent SynRcvd = FinWait1
fin_sent Established = FinWait1
fin_sent CloseWait = LastAck
fin_sent s = s

-- received: SYN without ACK
abbrev pub syn_received : State → State
syn_received Listen = SynRcvd
syn_received s = s

-- received: SYN and ACK, which acknowledges this end's SYN
abbrev pub syn_ack_received : State → State
syn_ack_received SynSent = Established
syn_ack_received s = s

-- received: ACK, which acknowledges this end's SYN
abbrev pub syn_acknowledged : State → State
syn_acknowledged SynRcvd = Established
syn_acknowledged s = s

-- received: ACK, which acknowledges this end's FIN
abbrev pub fin_acknowledged : State → State
fin_acknowledged FinWait1 = FinWait2
fin_acknowledged Closing = TimeWait
fin_acknowledged LastAck = Closed
fin_acknowledged s = s

-- received: a segment after which the sender's FIN is reached
abbrev pub fin_reached : State → State
fin_reached SynRcvd = CloseWait
fin_reached Established = CloseWait
fin_reached FinWait1 = Closing
fin_reached FinWait2 = TimeWait
fin_reached s = s

-- the end has nothing more to do
abbrev pub is_done : State → Bool
is_done Closed = true
is_done TimeWait = true
is_done _ = false
