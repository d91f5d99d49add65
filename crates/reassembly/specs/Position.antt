-- Sequence numbers count modulo 2 ^ 32 (RFC 9293, section 3.4). A position counts a stream's bytes from 0 on and never wraps:
-- position 0 is the byte after the SYN, whose sequence number is irs.
use Rattle.std.specs.Prelude.{◌≡◌, ℕ, ◌+◌, ◌-◌, ◌%◌, ◌^◌, ℤ, pos, ◌+ℤ◌, ◌-ℤ◌, ◌*ℤ◌, ◌≤ℤ◌, ◌<ℤ◌, neg_ℤ, nat_lt, if◌then◌else◌}

-- q is the position of the sequence number: the one whole number within 2 ^ 31 of next that is congruent to seq - irs - 1
pub record IsPosition (next irs seq : ℕ) (q : ℤ) : Type 0 where
  pub from : (pos next -ℤ pos (2 ^ 31)) ≤ℤ q
  pub below : q <ℤ (pos next +ℤ pos (2 ^ 31))
  pub congruent : (turns : ℤ) × (q ≡ ((pos seq -ℤ pos irs) -ℤ pos 1) +ℤ (turns *ℤ pos (2 ^ 32)))

-- such a difference is near enough to be told by 32 bits
pub record IsNear (d : ℤ) : Type 0 where
  pub from : neg_ℤ (pos (2 ^ 31)) ≤ℤ d
  pub to : d <ℤ pos (2 ^ 31)

-- a difference of two sequence numbers as a signed number: from -2 ^ 31 up to below 2 ^ 31
abbrev pub signed_difference : ℕ → ℤ
signed_difference w = if nat_lt w (2 ^ 31) then pos w else pos w -ℤ pos (2 ^ 32)

-- how far the sequence number lies above that of position next, modulo 2 ^ 32 and signed
abbrev pub distance_of : ℕ → ℕ → ℕ → ℤ
distance_of next irs seq = signed_difference ((seq + 2 ^ 33 - (irs + 1 + next % 2 ^ 32)) % 2 ^ 32)

-- the position of a sequence number
abbrev pub position_of : ℕ → ℕ → ℕ → ℤ
position_of next irs seq = pos next +ℤ distance_of next irs seq
