-- The windows that packets advertise (RFC 9293, section 3.8.6), and the shifts of both ends that scale them (RFC 7323,
-- sections 2.2 and 2.3).
use Rattle.std.specs.Prelude.{ℕ, ◌*◌, ◌^◌, ◌≤◌, Bool, not, ◌&&◌, Option, None, is_some, unwrap_or, if◌then◌else◌}
use Rattle.std.specs.Option.{ForSome}
use Rattle.packet_views.specs.declared.packet.Head.{Head}
use Rattle.packet_views.specs.Flags.{has_syn, has_ack, has_rst}
use Rattle.tcp_emulation.specs.declared.segment.Side.{Side}
use Rattle.tcp_emulation.specs.declared.segment.Side.TheVariants.{Client, Server}
use Rattle.tcp_emulation.specs.declared.ends.Ends.{Ends}
use Rattle.tcp_emulation.specs.Ends.{end_at}
use Rattle.flow_socket.specs.declared.shifts.Shifts.{Shifts}

-- neither end has sent a SYN
abbrev pub no_shifts : Shifts
no_shifts = record { client = None; server = None }

abbrev pub shift_of : Side → Shifts → Option ℕ
shift_of Client s = s.client
shift_of Server s = s.server

abbrev pub with_shift : Side → Option ℕ → Shifts → Shifts
with_shift Client scale s = record { client = scale; server = s.server }
with_shift Server scale s = record { client = s.client; server = scale }

-- The shift of an end is the window scale of the first packet with SYN that it sends, if that packet has one. A later SYN
-- doesn't change it. The ends are those from before the packet.
abbrev pub shifts_after : Side → Head → Option ℕ → Ends → Shifts → Shifts
shifts_after from h scale ends s =
    if has_syn h && not (end_at from ends).has_sent_syn then with_shift from scale s else s

-- the shift by which an end's windows are read: its own, where both ends have one
abbrev pub shift_in_use : Side → Shifts → ℕ
shift_in_use from s = if is_some s.client && is_some s.server then unwrap_or (shift_of from s) 0 else 0

-- the window that a packet advertises, in bytes: that of a SYN isn't scaled
abbrev pub window_of : Side → Head → Shifts → ℕ
window_of from h s = h.win * 2 ^ (if has_syn h then 0 else shift_in_use from s)

-- the packet offers its window: it has ACK and no RST, and after it both ends have sent a SYN
abbrev pub makes_offer : Head → Ends → Bool
makes_offer h ends = has_ack h && not (has_rst h) && ends.client.has_sent_syn && ends.server.has_sent_syn

-- no shift is above 14
pub record AreBounded (s : Shifts) : Type 0 where
  pub client : ForSome s.client (λ shift. shift ≤ 14)
  pub server : ForSome s.server (λ shift. shift ≤ 14)
