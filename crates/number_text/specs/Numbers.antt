-- Numbers as texts write them.
use Rattle.std.specs.Prelude.{ℕ, Bool, ◌&&◌, ◌==◌, not, if◌then◌else◌, nat_le, nat_lt, List, length, slice_index, Option, Some, None}
use Rattle.std.specs.Char.{is_ascii_digit}
use Rattle.std.specs.List.{list_all}
use Rattle.std.specs.Str.Parse.{digits_value}

-- one decimal digit or more, and nothing else
abbrev pub are_digits : List ℕ → Bool
are_digits text = nat_lt 0 (length text) && list_all is_ascii_digit text

-- decimal digits, the first of several not 0
abbrev pub is_number : List ℕ → Bool
is_number text = are_digits text && not (nat_lt 1 (length text) && slice_index text 0 == 48)

-- the number that a text writes, where it is in a range
abbrev pub number_between : ℕ → ℕ → List ℕ → Option ℕ
number_between low high text =
    let n = digits_value 10 text in if is_number text && nat_le low n && nat_le n high then Some n else None

-- one to three digits of at most 255: a part of a dotted address
abbrev pub octet : List ℕ → Option ℕ
octet text =
    let n = digits_value 10 text in if are_digits text && nat_lt (length text) 4 && nat_le n 255 then Some n else None
