-- A text cut at its first byte of a kind.
use Rattle.std.specs.Prelude.{ℕ, ◌==◌, ◌+◌, not, if◌then◌else◌, nat_lt, List, length, take, drop, Option, Some, None}
use Rattle.std.specs.List.{prefix_len}

-- how many bytes stand before the first that is this one
abbrev pub position_of : ℕ → List ℕ → ℕ
position_of mark text = prefix_len (λ b. not (b == mark)) text

-- what stands before the first byte that is this one, and what stands behind it
abbrev pub cut_at : ℕ → List ℕ → Option (List ℕ × List ℕ)
cut_at mark text =
    if nat_lt (position_of mark text) (length text) then Some (take (position_of mark text) text, drop (position_of mark text + 1) text) else None
