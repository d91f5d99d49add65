-- Not of the headline. What the definitions say of positions and peeks, in the words of the subject.
use Rattle.std.specs.Prelude.{◌≡◌, ◌<◌, ℤ, ℕ, ◌-◌, ◌≤◌, ◌^◌, length, min}
use Rattle.reassembly.specs.Position.{IsPosition, position_of}
use Rattle.flow_socket.specs.Direction.{Direction, next_in}
use Rattle.flow_socket.specs.Peek.{peek_place, peek_bytes, marked}

-- a peek of n bytes reads all that lies between its place and next, at most n
abbrev pub PeekReadsUpToNext : Type 0
PeekReadsUpToNext = (rbuf n : ℕ) (d : Direction) →
    length (peek_bytes rbuf n d) ≡ min n (next_in d - peek_place rbuf d)

-- a mark that isn't past next isn't past it after a peek
abbrev pub MarkStaysBelowNext : Type 0
MarkStaysBelowNext = (rbuf n : ℕ) (d : Direction) → d.mark ≤ next_in d → (marked rbuf n d).mark ≤ next_in d

-- a sequence number has one position: the whole number within 2 ^ 31 of next that is congruent to it
abbrev pub PositionIsNearNext : Type 0
PositionIsNearNext = (next irs seq : ℕ) → irs < 2 ^ 32 → seq < 2 ^ 32 → IsPosition next irs seq (position_of next irs seq)

abbrev pub PositionIsTheOnlyOne : Type 0
PositionIsTheOnlyOne = (next irs seq : ℕ) (q : ℤ) → irs < 2 ^ 32 → seq < 2 ^ 32 →
    IsPosition next irs seq q → q ≡ position_of next irs seq
