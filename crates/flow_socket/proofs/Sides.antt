-- The two directions of a connection, by their senders.
use Rattle.std.proofs.Common.{◌≡◌, refl, sym, subst}
use Rattle.tcp_emulation.specs.declared.segment.Side.{Side}
use Rattle.tcp_emulation.specs.declared.segment.Side.TheVariants.{Client, Server}
use Rattle.flow_socket.specs.Direction.{Direction}
use Rattle.flow_socket.specs.Emulation.{Emulation, direction_of, with_direction}
use Rattle.flow_socket.specs.View.{DirectionView, SocketView, DirectionStandsFor, SocketStandsFor}

pub direction_of-with_direction : (from : Side) (d : Direction) (e : Emulation) → direction_of from (with_direction from d e) ≡ d
direction_of-with_direction Client d e = refl
direction_of-with_direction Server d e = refl

-- one direction changes, and all else stays
pub client_stands : (s : SocketView) (k : DirectionView) (change : Direction → Direction) (of : Side) (e : Emulation) →
    of ≡ Client → SocketStandsFor s e → DirectionStandsFor e.rbuf k (change e.client) →
    SocketStandsFor (record s { client = k }) (with_direction of (change (direction_of of e)) e)
client_stands s k change of e is was changed =
    subst (λ side. SocketStandsFor (record s { client = k }) (with_direction side (change (direction_of side e)) e)) (sym is)
    (record { ends = was.ends; shifts = was.shifts; client = changed; server = was.server; last = was.last; rbuf = was.rbuf; policy = was.policy })

pub server_stands : (s : SocketView) (k : DirectionView) (change : Direction → Direction) (of : Side) (e : Emulation) →
    of ≡ Server → SocketStandsFor s e → DirectionStandsFor e.rbuf k (change e.server) →
    SocketStandsFor (record s { server = k }) (with_direction of (change (direction_of of e)) e)
server_stands s k change of e is was changed =
    subst (λ side. SocketStandsFor (record s { server = k }) (with_direction side (change (direction_of side e)) e)) (sym is)
    (record { ends = was.ends; shifts = was.shifts; client = was.client; server = changed; last = was.last; rbuf = was.rbuf; policy = was.policy })
