-- Who sends what in each step of a connection. Connections are numbered from 0.
use Rattle.std.specs.Prelude.{ℕ, ◌+◌, ◌*◌, ◌%◌, ◌^◌}
use Rattle.capture_maker.specs.declared.step.Sender.{Sender}
use Rattle.capture_maker.specs.declared.step.Sender.TheVariants.{Client, Server}
use Rattle.capture_maker.specs.declared.step.Step.{Step}
use Rattle.capture_maker.specs.declared.step.Step.TheVariants.{Syn, SynAck, Opened, Request, LateHalf, FirstHalf, Repeated, ClientFin, ServerFin, LastAck}
use Rattle.capture_maker.specs.declared.step.Segment.{Segment}

-- sequence numbers of the client and of the server, so many behind those of their SYNs
abbrev pub in_client : ℕ → ℕ → ℕ
in_client c n = (c * 2654435761 + n) % 2 ^ 32

abbrev pub in_server : ℕ → ℕ → ℕ
in_server c n = (c * 2654435761 + 2 ^ 31 + n) % 2 ^ 32

-- a segment without payload, and one with PSH, ACK and so many bytes from this position of the sender's bytes on
abbrev pub bare : Sender → ℕ → ℕ → ℕ → Segment
bare sender flags seq ack = record { sender = sender; flags = flags; seq = seq; ack = ack; first = 0; count = 0 }

abbrev pub pushed : Sender → ℕ → ℕ → ℕ → ℕ → Segment
pushed sender seq ack first count = record { sender = sender; flags = 0x18; seq = seq; ack = ack; first = first; count = count }

-- what a connection sends in a step: flags 02 SYN, 10 ACK, 12 SYN and ACK, 11 FIN and ACK
unfoldable pub step_segment : Step → ℕ → Segment
step_segment Syn c = bare Client 0x02 (in_client c 0) 0
step_segment SynAck c = bare Server 0x12 (in_server c 0) (in_client c 1)
step_segment Opened c = bare Client 0x10 (in_client c 1) (in_server c 1)
step_segment Request c = pushed Client (in_client c 1) (in_server c 1) 0 64
step_segment LateHalf c = pushed Server (in_server c 101) (in_client c 65) 100 100
step_segment FirstHalf c = pushed Server (in_server c 1) (in_client c 65) 0 100
step_segment Repeated c = pushed Server (in_server c 1) (in_client c 65) 0 100
step_segment ClientFin c = bare Client 0x11 (in_client c 65) (in_server c 201)
step_segment ServerFin c = bare Server 0x11 (in_server c 201) (in_client c 66)
step_segment LastAck c = bare Client 0x10 (in_client c 66) (in_server c 202)

-- the byte at a position of what a connection's client or server sends
abbrev pub byte_of : Sender → ℕ → ℕ → ℕ
byte_of Client c p = (c + p) % 256
byte_of Server c p = (c + 3 * p) % 256
