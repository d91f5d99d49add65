-- Only for proofs. How far the streams of a connection can have come.
use Rattle.std.specs.Prelude.{ℕ, ◌*◌, ◌≤◌}
use Rattle.tcp_emulation.specs.declared.segment.Side.TheVariants.{Client, Server}
use Rattle.flow_socket.specs.View.{SocketView, next_at}

-- with a receive buffer of at most 1,048,576 bytes, a packet takes next no further than that
pub record Reaches (socket : SocketView) (packets : ℕ) : Type 0 where
  pub client : next_at Client socket ≤ 1048576 * packets
  pub server : next_at Server socket ≤ 1048576 * packets
  pub buffer : socket.rbuf ≤ 1048576
