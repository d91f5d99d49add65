-- A front of made bytes is given.
use Rattle.std.proofs.Common.{◌≡◌, ℕ, ◌+◌, ◌-◌, ◌≤◌, List, ◌++◌, length, take, drop, slice_range, sym, ap, ◌∙◌, arith, length-take-le}
use Rattle.std.proofs.lemmas.List.{drop-drop, drop-take, take-append-drop}
use Rattle.std.proofs.Math.Seq.{take-append_seam}

pub gives_front : (n start end : ℕ) (bytes to behind : List ℕ) → n ≤ length (slice_range bytes start end) → n ≤ end - start
    → to ≡ take n (slice_range bytes start end) ++ behind → slice_range bytes start end ≡ take n to ++ slice_range bytes (start + n) end
gives_front n start end bytes to behind fits within copied =
    let made = slice_range bytes start end in
    let front = take n made in
    let put : take n to ≡ front = ap (take n) copied ∙ ap (λ k. take k (front ++ behind)) (sym (length-take-le n made fits)) ∙ take-append_seam front behind in
    let left = end - (start + n) in
    let split : end - start ≡ n + left = omega arith in
    let rest : drop n made ≡ slice_range bytes (start + n) end =
    ap (λ k. drop n (take k (drop start bytes))) split ∙ drop-take n left (drop start bytes) ∙ ap (take left) (drop-drop n start bytes) in
    sym (take-append-drop n made) ∙ ap (λ l. l ++ drop n made) (sym put) ∙ ap (λ l. take n to ++ l) rest
