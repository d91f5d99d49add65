-- What a receiver has accepted: it forgets nothing.
use Rattle.std.specs.Prelude.{ℕ, ◌+◌, ◌-◌, List, [], Option, Some, None, min, nat_le, is_some, is_none, slice_index_or, map, if◌then◌else◌}
use Rattle.std.specs.List.{prefix_len, range_with_len}

-- the accepted bytes by position, None where none was accepted, the position of the FIN once it is noted, and the first
-- position past all that the receiver has offered to take, once it has
pub record Receiver : Type 0 where
  pub cells : List (Option ℕ)
  pub fin : Option ℕ
  pub offer : Option ℕ

-- a receiver that has accepted nothing
abbrev pub no_bytes : Receiver
no_bytes = record { cells = []; fin = None; offer = None }

-- the byte at a position
abbrev pub held : List (Option ℕ) → ℕ → Option ℕ
held cells p = slice_index_or cells p None

-- the least position that wasn't accepted: RCV.NXT, as a position
abbrev pub next_of : List (Option ℕ) → ℕ
next_of cells = prefix_len is_some cells

-- the kept bytes: those accepted from rbuf below next upward
abbrev pub kept : List (Option ℕ) → ℕ → ℕ → Option ℕ
kept cells rbuf p = if nat_le (next_of cells - rbuf) p then held cells p else None

-- the lowest kept position below next, or next where none is kept there; what waits above next doesn't count
unfoldable pub low_of : List (Option ℕ) → ℕ → ℕ
low_of cells rbuf = prefix_len is_none (map (kept cells rbuf) (range_with_len 0 (next_of cells)))

-- how many positions from next on lie in the receive window (RFC 9293, section 3.3.1): those of the receive buffer, and
-- once an offer was made no more than it leaves
abbrev pub wide_with : ℕ → Option ℕ → ℕ → ℕ
wide_with next None rbuf = rbuf
wide_with next (Some offer) rbuf = min rbuf (offer - next)

-- the receiver's
abbrev pub wide_of : Receiver → ℕ → ℕ
wide_of r rbuf = wide_with (next_of r.cells) r.offer rbuf

-- the first position from which on none is accepted anew: the end of the receive window, or a noted FIN below it
abbrev pub limit_of : ℕ → Option ℕ → ℕ → ℕ
limit_of next None wide = next + wide
limit_of next (Some fin) wide = min fin (next + wide)

-- the receiver's
abbrev pub limit_at : Receiver → ℕ → ℕ
limit_at r rbuf = limit_of (next_of r.cells) r.fin (wide_of r rbuf)
