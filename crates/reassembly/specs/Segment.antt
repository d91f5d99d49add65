-- What a segment does to a receiver (RFC 9293, sections 3.4 and 3.10.7.4). Each of its bytes is judged by the position p
-- where it stands and by the cell c that the receiver holds there, with next and limit from before the segment.
use Rattle.std.specs.Prelude.{ℕ, suc, zero, ◌+◌, ◌-◌, ℤ, pos, negsuc, ◌+ℤ◌, Bool, true, false, not, ◌&&◌, ◌||◌, nat_le, nat_lt, nat_eq, List, length, drop, map, max, min, Option, Some, None, is_some, slice_index, if◌then◌else◌}
use Rattle.std.specs.List.{range_with_len}
use Rattle.reassembly.specs.declared.answers.Policy.{Policy}
use Rattle.reassembly.specs.declared.answers.Policy.TheVariants.{First, Last}
use Rattle.reassembly.specs.declared.answers.Placed.{Placed}
use Rattle.reassembly.specs.Receiver.{Receiver, held, next_of, limit_at}

-- below next, or accepted before
abbrev pub is_old : ℕ → ℕ → Option ℕ → Bool
is_old next p c = nat_lt p next || is_some c

-- accepted by this segment
abbrev pub is_new : ℕ → ℕ → ℕ → Option ℕ → Bool
is_new next limit p c = not (is_old next p c) && nat_lt p limit

-- beyond the window, or at or past the FIN
abbrev pub is_beyond : ℕ → ℕ → ℕ → Option ℕ → Bool
is_beyond next limit p c = not (is_old next p c) && nat_le limit p

-- kept, with another byte than the segment's
abbrev pub is_differing : ℕ → ℕ → ℕ → Option ℕ → ℕ → Bool
is_differing next rbuf p None b = false
is_differing next rbuf p (Some a) b = nat_le (next - rbuf) p && not (nat_eq a b)

-- whether the byte that came last stays
abbrev pub is_last : Policy → Bool
is_last First = false
is_last Last = true

-- the cell after the segment's byte b: b where it is new, or old at or above next under the policy that the last byte stays
abbrev pub cell_after : ℕ → ℕ → Policy → ℕ → Option ℕ → ℕ → Option ℕ
cell_after next limit policy p c b = if is_new next limit p c || (is_last policy && (is_old next p c && nat_le next p)) then Some b else c

-- the bytes stand from position q on, and one of them stands at p
abbrev pub has_byte : ℕ → List ℕ → ℕ → Bool
has_byte q bytes p = nat_le q p && nat_lt p (q + length bytes)

-- the cell at p after the whole segment
abbrev pub held_after : ℕ → ℕ → Policy → ℕ → List ℕ → ℕ → Option ℕ → Option ℕ
held_after next limit policy q bytes p c = if has_byte q bytes p then cell_after next limit policy p c (slice_index bytes (p - q)) else c

-- the receiver after a segment whose bytes stand from position q on
abbrev pub accept_at : Receiver → ℕ → List ℕ → Policy → ℕ → Receiver
accept_at r q bytes policy rbuf = record r {
  cells = map (λ p. held_after (next_of r.cells) (limit_at r rbuf) policy q bytes p (held r.cells p)) (range_with_len 0 (max (length r.cells) (q + length bytes)));
}

-- how many numbers below n pass
abbrev pub count_below : (ℕ → Bool) → ℕ → ℕ
count_below test zero = 0
count_below test (suc n) = (if test n then 1 else 0) + count_below test n

-- how the bytes of that segment are judged
abbrev pub counts_at : Receiver → ℕ → List ℕ → ℕ → Placed
counts_at r q bytes rbuf = record {
  new = count_below (λ i. is_new (next_of r.cells) (limit_at r rbuf) (q + i) (held r.cells (q + i))) (length bytes);
  old = count_below (λ i. is_old (next_of r.cells) (q + i) (held r.cells (q + i))) (length bytes);
  differ = count_below (λ i. is_differing (next_of r.cells) rbuf (q + i) (held r.cells (q + i)) (slice_index bytes i)) (length bytes);
  over = count_below (λ i. is_beyond (next_of r.cells) (limit_at r rbuf) (q + i) (held r.cells (q + i))) (length bytes);
}

-- A segment may begin below position 0. Its bytes there are old, and never kept.
-- the first position at or above 0 from q on, and how many positions lie below 0
abbrev pub from_zero : ℤ → ℕ
from_zero (pos q) = q
from_zero (negsuc n) = 0

abbrev pub below_zero : ℤ → ℕ
below_zero (pos q) = 0
below_zero (negsuc n) = suc n

-- the receiver after a segment that begins at q
unfoldable pub accept : Receiver → ℤ → List ℕ → Policy → ℕ → Receiver
accept r q bytes policy rbuf = accept_at r (from_zero q) (drop (below_zero q) bytes) policy rbuf

-- how each of its bytes is judged
unfoldable pub counts : Receiver → ℤ → List ℕ → ℕ → Placed
counts r q bytes rbuf = let c = counts_at r (from_zero q) (drop (below_zero q) bytes) rbuf in record c { old = min (below_zero q) (length bytes) + c.old }

-- the receiver after a segment that begins d above next
abbrev pub accept_above : ℤ → List ℕ → Policy → ℕ → Receiver → Receiver
accept_above d bytes policy rbuf r = accept r (pos (next_of r.cells) +ℤ d) bytes policy rbuf

-- how the bytes of that one are judged
abbrev pub counts_above : ℤ → List ℕ → ℕ → Receiver → Placed
counts_above d bytes rbuf r = counts r (pos (next_of r.cells) +ℤ d) bytes rbuf
