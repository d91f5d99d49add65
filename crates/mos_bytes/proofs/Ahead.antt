-- Bytes that were read ahead, before those that a reader has left.
use Rattle.std.proofs.Common.{◌≡◌, ℕ, ◌+◌, ◌-◌, ◌≤◌, List, [], ◌++◌, length, take, drop, slice_range, None, Some, Result, sym, ap, subst, ◌∙◌, arith, append_assoc, drop_at, length-append, length-take-le}
use Rattle.std.proofs.lemmas.List.{drop-take, take-append-drop}
use Rattle.std.proofs.Math.Seq.{take-append_seam}
use Rattle.std.specs.declared.option.Option.{Option}
use Rattle.std.specs.Io.KnownBytes.{Consumes, ReadConsumes, prepend_known}
use Rattle.std.proofs.KnownBytes.{prepend_known-nil}
use Rattle.mos_bytes.specs.Reads.{PassesOver}
use lib.Seq.{drop-drop}

-- the front of what was read ahead is gone
prepend_known-front : (known : Option (List ℕ)) (ahead front rest : List ℕ) → ahead ≡ front ++ rest → Consumes (prepend_known ahead known) (prepend_known rest known) front
prepend_known-front None ahead front rest parts = tt
prepend_known-front (Some left) ahead front rest parts = ap (λ l. l ++ left) parts ∙ append_assoc front rest left

-- n bytes of a buffer are passed over
pub ahead_passed : (known : Option (List ℕ)) (n start end : ℕ) (buffer : List ℕ) → n ≤ end - start
    → Consumes (prepend_known (slice_range buffer start end) known) (prepend_known (slice_range buffer (start + n) end) known) (take n (slice_range buffer start end))
ahead_passed known n start end buffer within =
    let ahead = slice_range buffer start end in
    let left = end - (start + n) in
    let split : end - start ≡ n + left = omega arith in
    let rest : drop n ahead ≡ slice_range buffer (start + n) end =
    ap (λ k. drop n (take k (drop start buffer))) split ∙ drop-take n left (drop start buffer) ∙ ap (take left) (drop-drop n start buffer) in
    let parts : ahead ≡ take n ahead ++ slice_range buffer (start + n) end =
    sym (take-append-drop n ahead) ∙ ap (λ l. take n ahead ++ l) rest in
    prepend_known-front known ahead (take n ahead) (slice_range buffer (start + n) end) parts

-- the same by how many they are
pub ahead_passed_over : (known : Option (List ℕ)) (n start end : ℕ) (buffer : List ℕ) → n ≤ end - start → n ≤ length (slice_range buffer start end)
    → PassesOver (prepend_known (slice_range buffer start end) known) (prepend_known (slice_range buffer (start + n) end) known) n
ahead_passed_over None n start end buffer within fits = tt
ahead_passed_over (Some left) n start end buffer within fits =
    let ahead = slice_range buffer start end in
    let rest = slice_range buffer (start + n) end ++ left in (
      omega (arith, fits, length-append ahead left),
      sym (ap (drop n) (ahead_passed (Some left) n start end buffer within) ∙ drop_at (take n ahead) rest n (length-take-le n ahead fits)),
    )

-- a read from a buffer, which copies n bytes to the front of another
pub ahead_read : (known : Option (List ℕ)) (n start end : ℕ) (buffer to behind : List ℕ) → start ≤ end → n ≤ length (slice_range buffer start end)
    → n ≤ end - start → to ≡ take n (slice_range buffer start end) ++ behind
    → Consumes (prepend_known (slice_range buffer start end) known) (prepend_known (slice_range buffer (start + n) end) known) (take n to)
ahead_read known n start end buffer to behind ordered fits within copied =
    let ahead = slice_range buffer start end in
    let front = take n ahead in
    let put : take n to ≡ front = ap (take n) copied ∙ ap (λ k. take k (front ++ behind)) (sym (length-take-le n ahead fits)) ∙ take-append_seam front behind in
    subst (Consumes (prepend_known ahead known) (prepend_known (slice_range buffer (start + n) end) known)) (sym put) (ahead_passed known n start end buffer within)

-- a read of the reader itself, with nothing read ahead
pub direct_read : {E : Type 0} (a b : Option (List ℕ)) (ahead : List ℕ) (result : Result ℕ E) (buf : List ℕ) → ahead ≡ []
    → ReadConsumes a b result buf → ReadConsumes (prepend_known ahead a) (prepend_known ahead b) result buf
direct_read a b ahead result buf none reads =
    subst (λ l. ReadConsumes (prepend_known l a) (prepend_known l b) result buf) (sym none)
    (subst (λ k. ReadConsumes k (prepend_known [] b) result buf) (sym (prepend_known-nil a))
    (subst (λ k. ReadConsumes a k result buf) (sym (prepend_known-nil b)) reads))
