use Rattle.std.proofs.Common.{◌≡◌, ◌-◌, ◌≤◌, length, min, arith}
use Rattle.flow_socket.specs.Direction.{next_in}
use Rattle.flow_socket.specs.Peek.{peek_place, peek_bytes}
use Rattle.flow_socket.proofs.Peeking.{peek_length, low_under}
use Rattle.flow_socket.proofs.laws.peek_reads_up_to_next.Goals as goal

pub returns-clause-all : goal.returns-clause-all
returns-clause-all c = peek_length

pub returns-clause-mark : goal.returns-clause-mark
returns-clause-mark c rbuf n d within =
    let len : length (peek_bytes rbuf n d) ≡ min n (next_in d - peek_place rbuf d) = peek_length rbuf n d in
    let low : peek_place rbuf d ≤ next_in d = low_under rbuf d within in
    omega arith
