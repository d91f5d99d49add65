-- The TCP options (RFC 9293, section 3.1) and among them the window scale (RFC 7323, section 2.2).
-- An option is its kind and, for every kind but 0 and 1, its length and its data; the length counts the kind and itself.
use Rattle.std.specs.Prelude.{◌==◌, ◌||◌, ◌&&◌, ℕ, zero, suc, ◌+◌, ◌-◌, Bool, nat_lt, min, if◌then◌else◌, List, [], ◌∷◌, length, slice_index, Option, Some, None}
use Rattle.packet_views.specs.Tcp.{options_at}

-- the length of an option by the bytes after its kind, 0 where they end before it
abbrev pub option_length : List ℕ → ℕ
option_length after_kind = slice_index after_kind 0

-- an option needs a length of at least 2 that fits into the bytes that are there
abbrev pub has_bad_length : List ℕ → Bool
has_bad_length after_kind =
    nat_lt (option_length after_kind) 2 || nat_lt (length after_kind + 1) (option_length after_kind)

-- The shift of the first window scale option that a walk over the options finds, at most 14.
-- The first `skip` bytes are the rest of an option that the walk passes over.
-- Kind 0 and an option with a bad length end the walk, and kind 1 is one byte.
abbrev pub scale_after : ℕ → List ℕ → Option ℕ
scale_after skip [] = None
scale_after (suc skip) (byte ∷ rest) = scale_after skip rest
scale_after zero (kind ∷ rest) =
    if kind == 0 then None
    else if kind == 1 then scale_after 0 rest
    else if has_bad_length rest then None
    else if kind == 3 && option_length rest == 3 then Some (min (slice_index rest 1) 14)
    else scale_after (option_length rest - 1) rest

-- the window scale of the TCP header at a place
abbrev pub scale_at : ℕ → List ℕ → Option ℕ
scale_at tcp frame = scale_after 0 (options_at tcp frame)
