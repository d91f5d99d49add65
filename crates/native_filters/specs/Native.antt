-- The six native filters, by their numbers.
use Rattle.std.specs.Prelude.{ℕ, ◌+◌, ◌*◌, ◌-◌, ◌/◌, ◌^◌, Bool, not, ◌&&◌, ◌||◌, ◌==◌, if◌then◌else◌, nat_lt, bit_and}
use Rattle.native_filters.specs.declared.facts.Facts.{Facts}

-- whether all bits of the mask are set
abbrev pub has_bits : ℕ → ℕ → Bool
has_bits bits mask = bit_and bits mask == mask

-- the IPv4 address a.b.c.d as a number
abbrev pub quad : ℕ → ℕ → ℕ → ℕ → ℕ
quad a b c d = ((a * 256 + b) * 256 + c) * 256 + d

-- whether two IPv4 addresses agree in their first `length` bits
abbrev pub in_net : ℕ → ℕ → ℕ → Bool
in_net addr net length = addr / 2 ^ (32 - length) == net / 2 ^ (32 - length)

-- whether the address is in one of the three blocks for private networks (RFC 1918, 3)
abbrev pub is_private : ℕ → Bool
is_private addr =
    in_net addr (quad 10 0 0 0) 8 || in_net addr (quad 172 16 0 0) 12 || in_net addr (quad 192 168 0 0) 16

-- the native filter of a number from 0 to 5. The control bits of the TCP header are FIN 1, SYN 2, RST 4 and ACK 16 (RFC 9293, 3.1)
unfoldable pub native : ℕ → Facts → Bool
native which f =
    -- a SYN without ACK
    if which == 0 then has_bits f.flags 2 && not (has_bits f.flags 16) else
    -- a system port at one end
    if which == 1 then nat_lt f.sport 1024 || nat_lt f.dport 1024 else
    -- both ends in private networks
    if which == 2 then is_private f.src && is_private f.dst else
    -- one byte, sent again, as a keep-alive has
    if which == 3 then (f.len == 1) && (f.rexlen == 1) else
    -- an end of the connection
    if which == 4 then has_bits f.flags 1 || has_bits f.flags 4 else
    -- bytes sent again with other values
    nat_lt 0 f.rexdiff
