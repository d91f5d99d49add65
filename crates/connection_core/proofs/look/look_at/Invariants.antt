use Rattle.std.proofs.Common.{◌≤◌, ◌+◌}
use Rattle.reassembly.specs.Receiver.{kept}
use Rattle.reassembly.specs.Kept.{positions_in}
use Rattle.flow_socket.specs.Emulation.{Emulation, direction_of}
use Rattle.flow_socket.specs.View.{SocketStandsFor}
use Rattle.flow_socket.specs.Peek.{runs_at}
use Rattle.connection_core.proofs.Looking.{Looking}
use Rattle.connection_core.proofs.look.look_at.Given as goal

abbrev pub invariant-loop-place : goal.invariant-loop-place
invariant-loop-place l = record {
  can_next : (goal.iterator-loop-place).can_next l.place-iterator;
  is_finite : (goal.iterator-loop-place).is_finite l.place-iterator;
  few : l.got + positions_in l.place-iterator ≤ 256;
  looking : (e : Emulation) → SocketStandsFor l.socket e
      → Looking (kept (direction_of l.fn.from e).receiver.cells e.rbuf) (runs_at l.fn.from l.off l.len e) l.keep l.got l.pieces l.place-iterator;
}
