-- One stretch more is laid and judged.
use Rattle.std.proofs.Common.{◌≡◌, ℕ, ◌+◌, ◌-◌, ◌<◌, ◌≤◌, Bool, true, false, cond, not, ◌&&◌, refl, ap, ap₂, ◌∙◌, sym, arith, List, length, take, drop, eqb, ⊎_elim}
use Rattle.std.specs.Prelude.{slice_index}
use Rattle.std.proofs.lemmas.Bool.{cases_lt, cond_both, lt-leb, and_right}
use Rattle.reassembly.specs.declared.answers.Policy.{Policy}
use Rattle.reassembly.specs.declared.runs.Run.{Run}
use Rattle.reassembly.specs.declared.laying.Judged.{Judged}
use Rattle.reassembly.specs.Segment.{is_last, count_below, has_byte}
use Rattle.reassembly.specs.Runs.{is_covered}
use Rattle.reassembly.specs.Laying.{differing_of, laid_byte, tally_of, tally_of_stretch, tally_sum}
use Rattle.reassembly.proofs.Counts.{count_below-le, count_below-stretch, count_below-more, count_below-stays, count_below-none}
use Rattle.std.proofs.lemmas.List.{length-take-le}
use Rattle.std.proofs.Common.{length-drop, get_or-take, get_or-drop, leb, ltb, le-leb, lt-ltb, le-ltb}
use borrow.Rule.Slice.PartMut.{put_mid}
use Rattle.reassembly.proofs.Parts.{part_at, mid_below, mid_in, mid_above}

pub record IsFew (t : Judged) (n : ℕ) : Type 0 where
  pub new : t.new ≤ n
  pub old : t.old ≤ n
  pub differ : t.differ ≤ n

pub tally_few : (runs : List Run) (start : ℕ) (cells segment : List ℕ) (n : ℕ) (t : Judged) → t ≡ tally_of runs start cells segment n → IsFew t n
tally_few runs start cells segment n t e = rw e (record {
  new = count_below-le (λ i. not (is_covered runs (start + i))) n;
  old = count_below-le (λ i. is_covered runs (start + i)) n;
  differ = count_below-le (λ i. is_covered runs (start + i) && not (eqb (slice_index cells i) (slice_index segment i))) n;
})

pub stretch_few : (is_old : Bool) (cells segment : List ℕ) (t : Judged) → t ≡ tally_of_stretch is_old cells segment → IsFew t (length segment)
stretch_few is_old cells segment t e =
    let few = count_below-le (λ i. not (eqb (slice_index cells i) (slice_index segment i))) (length segment) in
    rw e (elim is_old as (λ b. IsFew (tally_of_stretch b cells segment) (length segment)) [
      | true ↦ record { new = omega arith; old = omega arith; differ = few }
      | false ↦ record { new = omega arith; old = omega arith; differ = omega arith }
    ])

pub tally_is : (a b : Judged) → a.new ≡ b.new → a.old ≡ b.old → a.differ ≡ b.differ → a ≡ b
tally_is a b n o d =
    let made : ℕ → ℕ → ℕ → Judged = λ x y z. record { new = x; old = y; differ = z } in
    ap (λ x. made x a.old a.differ) n ∙ ap (λ y. made b.new y a.differ) o ∙ ap (λ z. made b.new b.old z) d

-- the counts of a stretch of n bytes from index m on, where cells and segment are its parts
pub tally_more : (runs : List Run) (start m n k : ℕ) (cells segment part_cells part : List ℕ) (is_old : Bool) → m + n ≡ k → length part ≡ n
    → ((i : ℕ) → i < n → is_covered runs (start + (m + i)) ≡ is_old)
    → ((i : ℕ) → i < n → slice_index part_cells i ≡ slice_index cells (m + i))
    → ((i : ℕ) → i < n → slice_index part i ≡ slice_index segment (m + i))
    → tally_sum (tally_of runs start cells segment m) (tally_of_stretch is_old part_cells part) ≡ tally_of runs start cells segment k
tally_more runs start m n k cells segment part_cells part true sum len alike same_cells same =
    let new : count_below (λ i. not (is_covered runs (start + i))) k ≡ count_below (λ i. not (is_covered runs (start + i))) m
    = count_below-stays (λ i. not (is_covered runs (start + i))) m n k sum (λ i l. ap not (alike i l)) in
    let old : count_below (λ i. is_covered runs (start + i)) k ≡ count_below (λ i. is_covered runs (start + i)) m + n
    = count_below-more (λ i. is_covered runs (start + i)) m n k sum alike in
    let test : ℕ → Bool = λ i. is_covered runs (start + i) && not (eqb (slice_index cells i) (slice_index segment i)) in
    let differ : count_below test k ≡ count_below test m + differing_of part_cells part n
    = count_below-stretch test (λ i. not (eqb (slice_index part_cells i) (slice_index part i))) m n k sum
    (λ i l. ap₂ (λ b c. b && not c) (alike i l) (ap₂ eqb (sym (same_cells i l)) (sym (same i l)))) in
    tally_is (tally_sum (tally_of runs start cells segment m) (tally_of_stretch true part_cells part)) (tally_of runs start cells segment k)
    (omega (arith, new)) (omega (arith, old, len)) (rw len (sym differ))
tally_more runs start m n k cells segment part_cells part false sum len alike same_cells same =
    let new : count_below (λ i. not (is_covered runs (start + i))) k ≡ count_below (λ i. not (is_covered runs (start + i))) m + n
    = count_below-more (λ i. not (is_covered runs (start + i))) m n k sum (λ i l. ap not (alike i l)) in
    let old : count_below (λ i. is_covered runs (start + i)) k ≡ count_below (λ i. is_covered runs (start + i)) m
    = count_below-stays (λ i. is_covered runs (start + i)) m n k sum alike in
    let test : ℕ → Bool = λ i. is_covered runs (start + i) && not (eqb (slice_index cells i) (slice_index segment i)) in
    let differ : count_below test k ≡ count_below test m
    = count_below-stays test m n k sum (λ i l. ap (λ b. b && not (eqb (slice_index cells (m + i)) (slice_index segment (m + i)))) (alike i l)) in
    tally_is (tally_sum (tally_of runs start cells segment m) (tally_of_stretch false part_cells part)) (tally_of runs start cells segment k)
    (omega (arith, new, len)) (omega (arith, old)) (omega (arith, differ))

-- the byte at index m + i of the stretch after it was laid
pub laid_more : (runs : List Run) (start j : ℕ) (policy : Policy) (cells segment : List ℕ) (is_old : Bool) → is_covered runs (start + j) ≡ is_old
    → cond (is_old && not (is_last policy)) (slice_index cells j) (slice_index segment j) ≡ laid_byte runs start policy cells segment j
laid_more runs start j policy cells segment is_old alike = rw alike refl

pub length-part : {X : Type 0} (a b : ℕ) (xs : List X) → a ≤ b → b ≤ length xs → length (take (b - a) (drop a xs)) ≡ b - a
length-part a b xs l h = length-take-le (b - a) (drop a xs) (let e : length (drop a xs) ≡ length xs - a = length-drop a xs in omega arith)

-- the cells before, and after the part from a to below b was laid
pub record IsLaidPart (runs : List Run) (start : ℕ) (policy : Policy) (before segment cells : List ℕ) (b : ℕ) : Type 0 where
  pub done : (i : ℕ) → i < b → slice_index cells i ≡ laid_byte runs start policy before segment i
  pub rest : (i : ℕ) → b ≤ i → slice_index cells i ≡ slice_index before i

pub laid_part : (runs : List Run) (start a b : ℕ) (policy : Policy) (before segment cells part : List ℕ) (is_old : Bool)
    → a ≤ b → b ≤ length cells → length cells ≡ length segment
    → IsLaidPart runs start policy before segment cells a
    → ((i : ℕ) → i < b - a → is_covered runs (start + (a + i)) ≡ is_old)
    → part ≡ cond (is_old && not (is_last policy)) (take (b - a) (drop a cells)) (take (b - a) (drop a segment))
    → IsLaidPart runs start policy before segment (put_mid a (b - a) cells part) b
laid_part runs start a b policy before segment cells part is_old order within same h alike e =
    let stays = is_old && not (is_last policy) in
    let len : length part ≡ b - a = rw e (cond_both stays (take (b - a) (drop a cells)) (take (b - a) (drop a segment)) (λ xs. length xs ≡ b - a)
    (λ t. length-part a b cells order within) (λ t. length-part a b segment order (omega arith))) in
    let at_part : (i : ℕ) → i < b - a → slice_index part i ≡ cond stays (slice_index before (a + i)) (slice_index segment (a + i)) = λ i l. rw e
    (elim stays as (λ v. slice_index (cond v (take (b - a) (drop a cells)) (take (b - a) (drop a segment))) i ≡ cond v (slice_index before (a + i)) (slice_index segment (a + i))) [
      | true ↦ part_at a b cells i 0 l ∙ h.rest (a + i) (omega arith)
      | false ↦ part_at a b segment i 0 l
    ]) in
    record {
      done = λ i l. ⊎_elim
          (λ (below : i < a). mid_below a (b - a) cells part i 0 (omega arith) below ∙ h.done i below)
          (λ (from : a ≤ i).
          let back : a + (i - a) ≡ i = omega arith in
          let here : is_covered runs (start + i) ≡ is_old = rw back at (alike (i - a) (omega arith)) in
          let byte : slice_index part (i - a) ≡ cond stays (slice_index before i) (slice_index segment i) = rw back at (at_part (i - a) (omega arith)) in
          mid_in a (b - a) cells part i 0 (omega arith) from (omega arith) ∙ byte ∙ laid_more runs start i policy before segment is_old here)
          (cases_lt i a);
      rest = λ i l. mid_above a (b - a) cells part i 0 (omega arith) len (omega arith) ∙ h.rest i (omega arith);
    }

swapped : {X : Type 0} (b : Bool) (x y : X) → cond (not b) x y ≡ cond b y x
swapped true x y = refl
swapped false x y = refl

-- the buffer from base on, after bytes that stand from low on were laid into its part
pub laid_window : (runs : List Run) (base low k : ℕ) (policy : Policy) (xs bytes cells : List ℕ)
    → base ≤ low → k ≡ length bytes → (low - base) + length bytes ≤ length xs → length cells ≡ length bytes
    → ((i : ℕ) → i < length bytes → slice_index cells i ≡ laid_byte runs low policy (take k (drop (low - base) xs)) bytes i)
    → (p : ℕ) → base ≤ p
    → slice_index (put_mid (low - base) k xs cells) (p - base) ≡ cond (has_byte low bytes p && not (is_covered runs p && not (is_last policy)))
    (slice_index bytes (p - low)) (slice_index xs (p - base))
laid_window runs base low k policy xs bytes cells from same within len laid p l =
    let a = low - base in
    let stays = is_covered runs p && not (is_last policy) in
    ⊎_elim
    (λ (under : p < low).
    let no : leb low p ≡ false = lt-leb low p under in
    rw no (mid_below a k xs cells (p - base) 0 (omega arith) (omega arith)))
    (λ (over : low ≤ p). ⊎_elim
    (λ (here : p < low + length bytes).
    let yes : leb low p ≡ true = le-leb low p over in
    let and : ltb p (low + length bytes) ≡ true = lt-ltb p (low + length bytes) here in
    let back : low + (p - low) ≡ p = omega arith in
    let place : p - base - a ≡ p - low = omega arith in
    let again : a + (p - low) ≡ p - base = omega arith in
    let byte : slice_index cells (p - low) ≡ cond stays (slice_index (take k (drop a xs)) (p - low)) (slice_index bytes (p - low)) = rw back at (laid (p - low) (omega arith)) in
    let part : slice_index (take k (drop a xs)) (p - low) ≡ slice_index xs (p - base) = get_or-take k (drop a xs) (p - low) 0 (omega arith)
    ∙ get_or-drop a xs (p - low) 0 ∙ ap (slice_index xs) again in
    rw (yes, and) (mid_in a k xs cells (p - base) 0 (omega arith) (omega arith) (omega arith)
    ∙ ap (slice_index cells) place ∙ byte ∙ ap (λ x. cond stays x (slice_index bytes (p - low))) part
    ∙ sym (swapped stays (slice_index bytes (p - low)) (slice_index xs (p - base)))))
    (λ (past : low + length bytes ≤ p).
    let no : ltb p (low + length bytes) ≡ false = le-ltb p (low + length bytes) past in
    let never : has_byte low bytes p ≡ false = rw no (and_right (leb low p) false refl) in
    rw never (mid_above a k xs cells (p - base) 0 (omega arith) (omega arith) (omega arith)))
    (cases_lt p (low + length bytes)))
    (cases_lt p low)

-- bytes below the kept ones are never compared
pub none_compared : (low start n : ℕ) (test : ℕ → Bool) → n ≤ low - start → count_below (λ i. leb low (start + i) && test i) n ≡ 0
none_compared low start n test l = count_below-none (λ i. leb low (start + i) && test i) n (λ i b. ap (λ x. x && test i) (lt-leb low (start + i) (omega arith)))

-- and the others are: skip is how many lie below
pub some_compared : (low start skip n m : ℕ) (kept : ℕ → ℕ) (bytes : List ℕ) → skip ≡ low - start → skip + m ≡ n
    → count_below (λ i. not (eqb (kept (start + skip + i)) (slice_index (take m (drop skip bytes)) i))) m
    ≡ count_below (λ i. leb low (start + i) && not (eqb (kept (start + i)) (slice_index bytes i))) n
some_compared low start skip n m kept bytes e sum =
    let f : ℕ → Bool = λ i. leb low (start + i) && not (eqb (kept (start + i)) (slice_index bytes i)) in
    let g : ℕ → Bool = λ i. not (eqb (kept (start + skip + i)) (slice_index (take m (drop skip bytes)) i)) in
    let none : count_below f skip ≡ 0 = none_compared low start skip (λ i. not (eqb (kept (start + i)) (slice_index bytes i))) (omega arith) in
    let parts : count_below f n ≡ count_below f skip + count_below g m = count_below-stretch f g skip m n sum (λ i l.
    let yes : leb low (start + (skip + i)) ≡ true = le-leb low (start + (skip + i)) (omega arith) in
    let again : start + (skip + i) ≡ start + skip + i = omega arith in
    let byte : slice_index (take m (drop skip bytes)) i ≡ slice_index bytes (skip + i) = get_or-take m (drop skip bytes) i 0 l ∙ get_or-drop skip bytes i 0 in
    rw yes (ap not (ap₂ eqb (ap kept again) (sym byte)))) in
    omega (arith, none, parts)
