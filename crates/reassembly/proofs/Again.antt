-- Bytes that come again past the limit, over the buffer in which others of their segment were taken.
use Rattle.std.proofs.Common.{◌≡◌, ◌⊎◌, ℕ, ◌+◌, ◌-◌, ◌<◌, ◌≤◌, min, max, Bool, true, false, cond, not, ◌&&◌, refl, ap, ap₂, sym, ◌∙◌, arith, List, Some, None, is_some, length, take, drop, slice_index, eqb, leb, ltb, le-ltb, Option, ⊎_elim}
use Rattle.std.proofs.lemmas.Bool.{cond-true}
use Rattle.reassembly.specs.declared.answers.Policy.{Policy}
use Rattle.reassembly.specs.declared.laying.Judged.{Judged}
use Rattle.reassembly.specs.declared.runs.Run.{Run}
use Rattle.reassembly.specs.declared.window.Window.{Window}
use Rattle.reassembly.specs.Runs.{is_accepted, is_covered}
use Rattle.reassembly.specs.Segment.{is_last}
use Rattle.reassembly.specs.Pages.{IsGrown, tally_in}
use Rattle.reassembly.specs.Waiting.{runs_of, IsMet}
use Rattle.reassembly.specs.Window.{byte_at, cell_at, IsBounded, HaveAccepted, taken_cell, again_cell, taken_tally, AreTaken, AreAgain}
use Rattle.reassembly.proofs.Counts.{count_below-same, count_below-le}
use Rattle.reassembly.proofs.Laid.{IsFew, tally_is, length-part}
use Rattle.reassembly.proofs.Taken.{accepted_from_next, met_covered}
use Rattle.reassembly.proofs.Placing.{IsCut, placed_cell, some_of_cond}

-- no more bytes are judged than there are
pub few_in : (w : Window) (met : List Run) (low : ℕ) (bytes : List ℕ) (t : Judged) → t ≡ tally_in w.bytes met low bytes (length bytes) → IsFew t (length bytes)
few_in w met low bytes t e = rw e (record {
  new = count_below-le (λ i. not (is_covered met (low + i))) (length bytes);
  old = count_below-le (λ i. is_covered met (low + i)) (length bytes);
  differ = count_below-le (λ i. is_covered met (low + i) && not (eqb (byte_at w (low + i)) (slice_index bytes i))) (length bytes);
})

-- memory alone changes no cell, no judgement and no bound
pub met_cell : (old ready : Window) (p : ℕ) → ready.next ≡ old.next → ready.runs ≡ old.runs → IsGrown old.bytes ready.bytes → cell_at ready p ≡ cell_at old p
met_cell old ready p next runs grown = ap₂ (λ b x. cond b (Some x) None) (ap₂ (λ n rs. is_accepted n (runs_of rs) p) next runs) (grown.bytes p)

pub tally_met : (old ready : Window) (low : ℕ) (bytes : List ℕ) → ready.runs ≡ old.runs → IsGrown old.bytes ready.bytes → taken_tally ready low bytes ≡ taken_tally old low bytes
tally_met old ready low bytes runs grown =
    let covered : ℕ → Bool = λ i. is_covered (runs_of old.runs) (low + i) in
    rw runs (tally_is _ _ refl refl
    (count_below-same (λ i. covered i && not (eqb (byte_at ready (low + i)) (slice_index bytes i))) (λ i. covered i && not (eqb (byte_at old (low + i)) (slice_index bytes i))) (length bytes)
    (λ i l. ap (λ x. covered i && not (eqb x (slice_index bytes i))) (grown.bytes (low + i)))))

pub same_bound : (old new : Window) (m : ℕ) → new.next ≡ old.next → new.runs ≡ old.runs → IsBounded old m → IsBounded new m
same_bound old new m next runs b = record { next = rw next b.next; runs = rw runs b.runs }

-- a cell where no byte is taken stays
pub cell_stays : (policy : Policy) (low : ℕ) (bytes : List ℕ) (p : ℕ) (c : Option ℕ) → low + length bytes ≤ p → taken_cell policy low bytes p c ≡ c
cell_stays policy low bytes p c l =
    let out : ltb p (low + length bytes) ≡ false = le-ltb p (low + length bytes) l in
    rw out (elim (leb low p) as (λ b. cond ((b && false) && not (is_some c && not (is_last policy))) (Some (slice_index bytes (p - low))) c ≡ c) [ true ↦ refl | false ↦ refl ])

-- like cells are accepted alike, and have the same byte where they are
pub accepted_alike : (a b : Window) (p : ℕ) → cell_at a p ≡ cell_at b p → is_accepted a.next (runs_of a.runs) p ≡ is_accepted b.next (runs_of b.runs) p
accepted_alike a b p e = sym (some_of_cond (is_accepted a.next (runs_of a.runs) p) (byte_at a p)) ∙ ap is_some e ∙ some_of_cond (is_accepted b.next (runs_of b.runs) p) (byte_at b p)

byte_alike : (a b : Window) (p : ℕ) → cell_at a p ≡ cell_at b p → is_accepted b.next (runs_of b.runs) p ≡ true → byte_at a p ≡ byte_at b p
byte_alike a b p e t =
    let both : Some (byte_at a p) ≡ Some (byte_at b p)
    = sym (cond-true (is_accepted a.next (runs_of a.runs) p) (Some (byte_at a p)) None (accepted_alike a b p e ∙ t)) ∙ e
    ∙ cond-true (is_accepted b.next (runs_of b.runs) p) (Some (byte_at b p)) None t in
    cc both

-- the window before and the one in which others were taken, where bytes come again whose positions no other byte has
pub record IsAgain (old mid : Window) (met : List Run) (low high : ℕ) : Type 0 where
  pub next : low < high → old.next ≤ low
  pub meets : (high ≤ low) ⊎ IsMet (runs_of old.runs) low high met
  pub same : (p : ℕ) → low ≤ p → p < high → cell_at mid p ≡ cell_at old p

-- no other byte of a segment is taken where its bytes come again
pub again_from : (old ready mid : Window) (met : List Run) (limit end start m k j low : ℕ) (policy : Policy) (segment : List ℕ) → IsCut old.next limit end start (length segment) m k j
    → low ≡ start + m → old.bytes.base ≤ old.next → ready.next ≡ old.next → ready.runs ≡ old.runs → IsGrown old.bytes ready.bytes
    → (start + j ≤ start + k) ⊎ IsMet (runs_of old.runs) (start + k) (start + j) met
    → AreTaken policy low (take (k - m) (drop m segment)) ready mid
    → IsAgain old mid met (start + k) (start + j)
again_from old ready mid met limit end start m k j low policy segment cut at base next runs grown meets cells =
    let middle = take (k - m) (drop m segment) in
    let cm : m ≡ min (old.next - start) (length segment) = cut.below in
    let ck : k ≡ min (limit - start) (length segment) = cut.within in
    let cj : j ≡ max k (min (end - start) (length segment)) = cut.reach in
    let order : old.next ≤ limit = cut.order in
    let len : length middle ≡ k - m = length-part m k segment (omega arith) (omega arith) in
    let same_base : ready.bytes.base ≡ old.bytes.base = grown.base in
    record {
      next = λ l. omega arith;
      meets = meets;
      same = λ p l b. cells p (omega arith) ∙ cell_stays policy low middle p (cell_at ready p) (omega arith) ∙ met_cell old ready p next runs grown;
    }

-- the cells of the whole segment
pub cells_placed : (old ready mid new : Window) (start m k j low : ℕ) (policy : Policy) (segment : List ℕ) → low ≡ start + m
    → ready.next ≡ old.next → ready.runs ≡ old.runs → IsGrown old.bytes ready.bytes → mid.bytes.base ≡ ready.bytes.base
    → AreTaken policy low (take (k - m) (drop m segment)) ready mid
    → AreAgain policy (start + k) (take (j - k) (drop k segment)) mid new
    → (p : ℕ) → old.bytes.base ≤ p → cell_at new p ≡ placed_cell policy start segment m k j p (cell_at old p)
cells_placed old ready mid new start m k j low policy segment at next runs grown base cells again p l =
    let middle = take (k - m) (drop m segment) in
    let same_base : ready.bytes.base ≡ old.bytes.base = grown.base in
    again p (omega arith)
    ∙ ap (again_cell policy (start + k) (take (j - k) (drop k segment)) p)
    (cells p (omega arith) ∙ ap₂ (λ x c. taken_cell policy x middle p c) at (met_cell old ready p next runs grown))

covered_again : (old mid : Window) (met : List Run) (low high : ℕ) → IsAgain old mid met low high → (p : ℕ) → low ≤ p → p < high → is_covered met p ≡ is_covered (runs_of old.runs) p
covered_again old mid met low high h p from below = ⊎_elim
    (λ (none : high ≤ low). absurd (omega arith))
    (λ (is_met : IsMet (runs_of old.runs) low high met). met_covered (runs_of old.runs) met low high p is_met from below)
    h.meets

-- the runs that were met still cover what is accepted
pub accepted_again : (old mid : Window) (met : List Run) (low high : ℕ) → IsAgain old mid met low high → HaveAccepted mid met low high
accepted_again old mid met low high h p from below =
    let next : old.next ≤ low = h.next (omega arith) in
    covered_again old mid met low high h p from below ∙ sym (accepted_from_next old.next (runs_of old.runs) p (omega arith)) ∙ sym (accepted_alike mid old p (h.same p from below))

-- a comparison that is made at accepted positions alone
only_covered : (c : Bool) (x y b : ℕ) → (c ≡ true → x ≡ y) → (c && not (eqb x b)) ≡ (c && not (eqb y b))
only_covered true x y b h = ap (λ z. not (eqb z b)) (h refl)
only_covered false x y b h = refl

-- they are judged by the window from before the segment
pub tally_again : (old mid : Window) (met : List Run) (low high : ℕ) (bytes : List ℕ) → low + length bytes ≡ high → IsAgain old mid met low high
    → tally_in mid.bytes met low bytes (length bytes) ≡ taken_tally old low bytes
tally_again old mid met low high bytes len h =
    let runs : List Run = runs_of old.runs in
    let same : (i : ℕ) → i < length bytes → is_covered met (low + i) ≡ is_covered runs (low + i) = λ i l. covered_again old mid met low high h (low + i) (omega arith) (omega arith) in
    let byte : (i : ℕ) → i < length bytes → is_covered runs (low + i) ≡ true → byte_at mid (low + i) ≡ byte_at old (low + i) = λ i l t.
    let next : old.next ≤ low = h.next (omega arith) in
    byte_alike mid old (low + i) (h.same (low + i) (omega arith) (omega arith)) (accepted_from_next old.next runs (low + i) (omega arith) ∙ t) in
    tally_is (tally_in mid.bytes met low bytes (length bytes)) (taken_tally old low bytes)
    (count_below-same (λ i. not (is_covered met (low + i))) (λ i. not (is_covered runs (low + i))) (length bytes) (λ i l. ap not (same i l)))
    (count_below-same (λ i. is_covered met (low + i)) (λ i. is_covered runs (low + i)) (length bytes) same)
    (count_below-same
    (λ i. is_covered met (low + i) && not (eqb (byte_at mid (low + i)) (slice_index bytes i)))
    (λ i. is_covered runs (low + i) && not (eqb (byte_at old (low + i)) (slice_index bytes i)))
    (length bytes)
    (λ i l. ap (λ b. b && not (eqb (byte_at mid (low + i)) (slice_index bytes i))) (same i l)
    ∙ only_covered (is_covered runs (low + i)) (byte_at mid (low + i)) (byte_at old (low + i)) (slice_index bytes i) (byte i l)))
