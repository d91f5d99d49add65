-- What a receiver offers: with an acknowledgement and the window beside it, the positions that its peer may send
-- (RFC 9293, sections 3.3.1 and 3.8.6).
use Rattle.std.specs.Prelude.{ℕ, ℤ, pos, ◌+ℤ◌, Option, Some, max, unwrap_or}
use Rattle.reassembly.specs.Receiver.{Receiver}
use Rattle.reassembly.specs.Segment.{from_zero}

-- the greatest offer after one of size positions from a on, the position that is acknowledged: a window that shrinks
-- takes no position back, and an offer that ends below position 0 ends there
abbrev pub greatest_offer : Option ℕ → ℤ → ℕ → ℕ
greatest_offer offer a size = max (unwrap_or offer 0) (from_zero (a +ℤ pos size))

-- the receiver after that offer
abbrev pub offered : Receiver → ℤ → ℕ → Receiver
offered r a size = record { cells = r.cells; fin = r.fin; offer = Some (greatest_offer r.offer a size) }
