-- How far a peek reaches.
use Rattle.std.proofs.Common.{◌≡◌, ◌+◌, ◌-◌, ◌<◌, ◌≤◌, ℕ, zero, suc, List, Option, Some, None, true, false, is_none, is_some, le-leb, arith, length, map, get_or, take, drop, ◌++◌, refl, ap, sym, ◌∙◌, min, cond, leb, true≢false, ⊎_elim, zero-add}
use Rattle.std.specs.List.{range_with_len}
use Rattle.std.proofs.lemmas.Bool.{cases_lt}
use Rattle.std.proofs.lemmas.List.{drop-append-le, take-append-drop}
use Rattle.std.proofs.lemmas.List.FromFn.{get_or-map-range_with_len, length-map-range_with_len}
use Rattle.std.proofs.lemmas.List.Sums.{prefix_len_passes, prefix_len_stops, prefix_len-le-length}
use Rattle.reassembly.specs.Kept.{bytes_from, byte_then}
use Rattle.flow_socket.specs.Direction.{Direction, next_in}
use Rattle.flow_socket.specs.Peek.{peek_place, peek_bytes}
use Rattle.reassembly.specs.Receiver.{held, kept, next_of, low_of}

-- what lies more than rbuf below next isn't kept
not_kept : (cells : List (Option ℕ)) (rbuf p : ℕ) → p < next_of cells - rbuf → kept cells rbuf p ≡ None
not_kept cells rbuf p far = grind arith

-- the kept bytes below next are at most rbuf
pub low_near : (cells : List (Option ℕ)) (rbuf : ℕ) → next_of cells ≤ low_of cells rbuf + rbuf
unfolding low_of
low_near cells rbuf = ⊎_elim far (λ (near : next_of cells - rbuf ≤ low_of cells rbuf). omega arith) (cases_lt (low_of cells rbuf) (next_of cells - rbuf))
  where
    below : List (Option ℕ)
    below = map (kept cells rbuf) (range_with_len 0 (next_of cells))

    far : low_of cells rbuf < next_of cells - rbuf → next_of cells ≤ low_of cells rbuf + rbuf
    far l =
        let inside : low_of cells rbuf < next_of cells = omega arith in
        let here : get_or below (low_of cells rbuf) None ≡ kept cells rbuf (low_of cells rbuf) =
        get_or-map-range_with_len (kept cells rbuf) 0 (next_of cells) (low_of cells rbuf) (low_of cells rbuf) None inside (zero-add (low_of cells rbuf)) in
        let stops : is_none (get_or below (low_of cells rbuf) None) ≡ false = prefix_len_stops is_none below None (rw (length-map-range_with_len (kept cells rbuf) 0 (next_of cells)) inside) in
        absurd (true≢false (sym (ap is_none (here ∙ not_kept cells rbuf (low_of cells rbuf) l)) ∙ stops))

-- what a copy to the front of a front leaves of the whole
pub rest_after : (buf : List ℕ) (len wanted : ℕ) → len ≤ length (take wanted buf) → drop len (take wanted buf) ++ drop wanted buf ≡ drop len buf
rest_after buf len wanted within = sym (drop-append-le len (take wanted buf) (drop wanted buf) within) ∙ ap (drop len) (take-append-drop wanted buf)

-- a run of at most n bytes
pub read_within : (at : ℕ → Option ℕ) (p n : ℕ) → length (bytes_from at p n) ≤ n
read_within at p zero = omega arith
read_within at p (suc n) = elim (at p) as (λ o. length (byte_then o (bytes_from at (p + 1) n)) ≤ suc n)
    [ Some b ↦ (let rest : length (bytes_from at (p + 1) n) ≤ n = read_within at (p + 1) n in omega arith) | None ↦ omega arith ]

-- from the lowest kept position on, all is kept up to next
pub kept_up_to_next : (cells : List (Option ℕ)) (rbuf p : ℕ) → low_of cells rbuf ≤ p → p < next_of cells → is_some (kept cells rbuf p) ≡ true
kept_up_to_next cells rbuf p from below =
    let near : next_of cells ≤ low_of cells rbuf + rbuf = low_near cells rbuf in
    let far : leb (next_of cells - rbuf) p ≡ true = le-leb (next_of cells - rbuf) p (omega arith) in
    ap (λ b. is_some (cond b (held cells p) None)) far ∙ prefix_len_passes is_some cells p None below

-- a run of kept positions is read whole
pub length-bytes_from : (at : ℕ → Option ℕ) (p n : ℕ) → ((q : ℕ) → p ≤ q → q < p + n → is_some (at q) ≡ true) → length (bytes_from at p n) ≡ n
length-bytes_from at p zero all = refl
length-bytes_from at p (suc n) all =
    let rest : length (bytes_from at (p + 1) n) ≡ n = length-bytes_from at (p + 1) n (λ q low high. all q (omega arith) (omega arith)) in
    with_byte (at p) (all p (omega arith) (omega arith)) (bytes_from at (p + 1) n) n rest
  where
    with_byte : (o : Option ℕ) → is_some o ≡ true → (bytes : List ℕ) (m : ℕ) → length bytes ≡ m → length (byte_then o bytes) ≡ suc m
    with_byte (Some b) is bytes m e = ap suc e
    with_byte None is bytes m e = absurd (true≢false (sym is))

pub peek_length : (rbuf n : ℕ) (d : Direction) → length (peek_bytes rbuf n d) ≡ min n (next_in d - peek_place rbuf d)
peek_length rbuf n d =
    length-bytes_from (kept d.receiver.cells rbuf) (peek_place rbuf d) (min n (next_in d - peek_place rbuf d))
    (λ q low high. kept_up_to_next d.receiver.cells rbuf q (omega arith) (omega arith))

-- a peek begins at next at most
pub low_under : (rbuf : ℕ) (d : Direction) → d.mark ≤ next_in d → peek_place rbuf d ≤ next_in d
unfolding low_of
low_under rbuf d within =
    let cells : List (Option ℕ) = d.receiver.cells in
    let short : low_of cells rbuf ≤ length (map (kept cells rbuf) (range_with_len 0 (next_of cells))) = prefix_len-le-length is_none (map (kept cells rbuf) (range_with_len 0 (next_of cells))) in
    let long : length (map (kept cells rbuf) (range_with_len 0 (next_of cells))) ≡ next_of cells = length-map-range_with_len (kept cells rbuf) 0 (next_of cells) in
    omega arith
