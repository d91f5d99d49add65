-- Lists of cells: read at any position, next as the first empty cell.
use Rattle.std.proofs.Common.{◌≡◌, ℕ, ◌<◌, ◌≤◌, true, false, ap, ◌∙◌, sym, arith, List, Option, None, length, map, is_some, true≢false, ⊎_elim, zero-add}
use Rattle.std.specs.List.{range_with_len}
use Rattle.std.proofs.lemmas.List.{get_or_past}
use Rattle.std.proofs.lemmas.List.FromFn.{get_or-map-range_with_len, length-map-range_with_len}
use Rattle.std.proofs.lemmas.List.Sums.{prefix_len_passes, prefix_len_stops, prefix_len_is}
use Rattle.std.proofs.lemmas.Bool.{cases_lt}
use Rattle.reassembly.specs.Receiver.{held, next_of}

-- a list made from a function of the position
pub held_made : (f : ℕ → Option ℕ) (n p : ℕ) → p < n → held (map f (range_with_len 0 n)) p ≡ f p
held_made f n p l = get_or-map-range_with_len f 0 n p p None l (zero-add p)

pub held_made_past : (f : ℕ → Option ℕ) (n p : ℕ) → n ≤ p → held (map f (range_with_len 0 n)) p ≡ None
held_made_past f n p l = get_or_past (map f (range_with_len 0 n)) p None (rw (length-map-range_with_len f 0 n) l)

pub held_past : (cells : List (Option ℕ)) (p : ℕ) → length cells ≤ p → held cells p ≡ None
held_past cells p l = get_or_past cells p None l

-- each position below next is filled
pub below_next : (cells : List (Option ℕ)) (p : ℕ) → p < next_of cells → is_some (held cells p) ≡ true
below_next cells p l = prefix_len_passes is_some cells p None l

-- next isn't
pub at_next : (cells : List (Option ℕ)) → is_some (held cells (next_of cells)) ≡ false
at_next cells = ⊎_elim
    (λ (l : next_of cells < length cells). prefix_len_stops is_some cells None l)
    (λ (l : length cells ≤ next_of cells). ap is_some (held_past cells (next_of cells) l))
    (cases_lt (next_of cells) (length cells))

-- and this fixes it
pub next_is : (cells : List (Option ℕ)) (n : ℕ) → ((p : ℕ) → p < n → is_some (held cells p) ≡ true) → is_some (held cells n) ≡ false → next_of cells ≡ n
next_is cells n filled empty = prefix_len_is is_some cells n None
    (⊎_elim
    (λ (l : length cells < n). absurd (true≢false (sym (filled (length cells) l) ∙ ap is_some (held_past cells (length cells) (omega arith)))))
    (λ (l : n ≤ length cells). l)
    (cases_lt (length cells) n))
    filled (λ l. empty)
