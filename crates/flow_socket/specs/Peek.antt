-- Reading what a direction's receiver has accepted.
use Rattle.std.specs.Prelude.{ℕ, ◌+◌, ◌-◌, List, length, map, max, min}
use Rattle.tcp_emulation.specs.declared.segment.Side.{Side}
use Rattle.reassembly.specs.Receiver.{kept, low_of}
use Rattle.reassembly.specs.Kept.{bytes_from, runs_from}
use Rattle.flow_socket.specs.declared.answers.Peeked.{Peeked}
use Rattle.flow_socket.specs.Direction.{Direction, next_in}
use Rattle.flow_socket.specs.Emulation.{Emulation, direction_of, with_direction}

-- a peek begins at the mark, or at the lowest kept position where the receiver no longer has what lies between
abbrev pub peek_place : ℕ → Direction → ℕ
peek_place rbuf d = max d.mark (low_of d.receiver.cells rbuf)

-- it reads at most n bytes, all below next
abbrev pub peek_bytes : ℕ → ℕ → Direction → List ℕ
peek_bytes rbuf n d = bytes_from (kept d.receiver.cells rbuf) (peek_place rbuf d) (min n (next_in d - peek_place rbuf d))

abbrev pub peeked_in : ℕ → ℕ → Direction → Peeked
peeked_in rbuf n d = record {
  at = peek_place rbuf d;
  len = length (peek_bytes rbuf n d);
  missed = peek_place rbuf d - d.mark;
}

-- the mark then stands at the end of what was read
abbrev pub marked : ℕ → ℕ → Direction → Direction
marked rbuf n d = record d { mark = peek_place rbuf d + length (peek_bytes rbuf n d) }

-- the peek in the direction of one sender: what it answers, the bytes that it reads, and the connection after it
unfoldable pub peeked : Side → ℕ → Emulation → Peeked
peeked from n e = peeked_in e.rbuf n (direction_of from e)

unfoldable pub bytes_peeked : Side → ℕ → Emulation → List ℕ
bytes_peeked from n e = peek_bytes e.rbuf n (direction_of from e)

unfoldable pub after_peek : Side → ℕ → Emulation → Emulation
after_peek from n e = with_direction from (marked e.rbuf n (direction_of from e)) e

-- a peek at a place: the longest runs of kept positions among the n from it on, also above next; it moves no mark
unfoldable pub runs_at : Side → ℕ → ℕ → Emulation → List (ℕ × ℕ)
runs_at from place n e = runs_from (kept (direction_of from e).receiver.cells e.rbuf) place n

-- each run by its place and its bytes
unfoldable pub pieces_at : Side → ℕ → ℕ → Emulation → List (ℕ × List ℕ)
pieces_at from place n e =
    map (λ run. (run.0, bytes_from (kept (direction_of from e).receiver.cells e.rbuf) run.0 run.1)) (runs_at from place n e)
