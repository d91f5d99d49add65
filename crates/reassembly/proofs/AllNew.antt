-- A segment all of whose bytes below the limit are new: what it does, and what is counted.
use Rattle.std.proofs.Common.{◌≡◌, ℕ, ◌+◌, ◌-◌, ◌<◌, ◌≤◌, min, max, true, false, not, ◌&&◌, refl, ap, ◌∙◌, sym, arith, List, Option, Some, length, slice_index, take, drop, eqb, ⊎_elim}
use Rattle.std.proofs.lemmas.Bool.{cases_lt}
use Rattle.reassembly.specs.declared.answers.Placed.{Placed}
use Rattle.reassembly.specs.declared.answers.Policy.{Policy}
use Rattle.reassembly.specs.declared.laying.Judged.{Judged}
use Rattle.reassembly.specs.declared.window.Window.{Window}
use Rattle.reassembly.specs.Buffer.{TakesAll}
use Rattle.reassembly.specs.Runs.{is_covered, KeepsBounds}
use Rattle.reassembly.specs.Segment.{has_byte}
use Rattle.reassembly.specs.Steps.{StepsTo, counts_viewed}
use Rattle.reassembly.specs.Waiting.{runs_of}
use Rattle.reassembly.specs.Window.{byte_at, cell_at, accepts, view_of, IsLaid, IsSized, IsBounded, taken_tally}
use Rattle.reassembly.proofs.Counts.{count_below-all, count_below-none}
use Rattle.reassembly.proofs.Laid.{length-part, tally_is}
use Rattle.reassembly.proofs.Laws.{placed_is}
use Rattle.reassembly.proofs.Placing.{IsCut, placed_cell, part_byte, no_byte, some_byte, counts_placed, steps_placed}
use Rattle.reassembly.proofs.Taken.{covered_of_accepted}

-- the first k bytes of a segment are new and accepted now, none of the others is accepted, and nothing else changes
pub record IsAllNew (old new : Window) (limit end start : ℕ) (segment : List ℕ) (k : ℕ) : Type 0 where
  pub old_laid : IsLaid old
  pub old_base : old.bytes.base ≡ 0
  pub new_laid : IsLaid new
  pub new_base : new.bytes.base ≡ 0
  pub bounded : IsBounded old end
  pub from : old.next ≤ start
  pub order : old.next ≤ limit
  pub within : k ≡ min (limit - start) (length segment)
  pub reach : k ≡ max k (min (end - start) (length segment))
  pub rises : old.next ≤ new.next
  pub under : (p : ℕ) → p < start → cell_at new p ≡ cell_at old p
  pub past : (p : ℕ) → start + k ≤ p → cell_at new p ≡ cell_at old p
  pub free : (p : ℕ) → start ≤ p → p < start + k → accepts old p ≡ false
  pub taken : (p : ℕ) → start ≤ p → p < start + k → cell_at new p ≡ Some (slice_index segment (p - start))

cut_new : (old new : Window) (limit end start : ℕ) (segment : List ℕ) (k : ℕ) → IsAllNew old new limit end start segment k
    → IsCut old.next limit end start (length segment) 0 k k
cut_new old new limit end start segment k h =
    let from : old.next ≤ start = h.from in
    record { below = omega arith; within = h.within; reach = h.reach; order = h.order }

placed_new : (old new : Window) (policy : Policy) (limit end start : ℕ) (segment : List ℕ) (k : ℕ) → IsAllNew old new limit end start segment k
    → (p : ℕ) → cell_at new p ≡ placed_cell policy start segment 0 k k p (cell_at old p)
placed_new old new policy limit end start segment k h p =
    let middle = take (k - 0) (drop 0 segment) in
    let rest = take (k - k) (drop k segment) in
    let ck : k ≡ min (limit - start) (length segment) = h.within in
    let len : length middle ≡ k - 0 = length-part 0 k segment (omega arith) (omega arith) in
    let len2 : length rest ≡ k - k = length-part k k segment (omega arith) (omega arith) in
    let out2 : has_byte (start + k) rest p ≡ false = no_byte (start + k) rest p (λ f g. omega arith) in
    ⊎_elim
    (λ (under : p < start).
    let out : has_byte (start + 0) middle p ≡ false = no_byte (start + 0) middle p (λ f g. omega arith) in
    rw (out2, out) (h.under p under))
    (λ (over : start ≤ p). ⊎_elim
    (λ (inside : p < start + k).
    let in_middle : has_byte (start + 0) middle p ≡ true = some_byte (start + 0) middle p (omega arith) (omega arith) in
    let free = h.free p over inside in
    let place : 0 + (p - (start + 0)) ≡ p - start = omega arith in
    let byte : slice_index middle (p - (start + 0)) ≡ slice_index segment (p - start)
    = part_byte 0 k (length segment) segment (p - (start + 0)) refl (omega arith) (omega arith) (omega arith) ∙ ap (slice_index segment) place in
    h.taken p over inside ∙ rw (out2, in_middle, free) (ap Some (sym byte)))
    (λ (past : start + k ≤ p).
    let out : has_byte (start + 0) middle p ≡ false = no_byte (start + 0) middle p (λ f g. omega arith) in
    rw (out2, out) (h.past p past))
    (cases_lt p (start + k)))
    (cases_lt p start)

steps_new : (old new : Window) (policy : Policy) (fin : Option ℕ) (rbuf limit end start : ℕ) (segment : List ℕ) (k : ℕ) → IsAllNew old new limit end start segment k
    → StepsTo limit start segment policy (view_of old fin rbuf) (view_of new fin rbuf)
steps_new old new policy fin rbuf limit end start segment k h =
    let old_base : old.bytes.base ≡ 0 = h.old_base in
    let new_base : new.bytes.base ≡ 0 = h.new_base in
    steps_placed old new new fin rbuf limit end start 0 k k policy segment
    (record {
      old_laid = h.old_laid;
      old_kept = omega arith;
      mid_laid = h.new_laid;
      rises = h.rises;
      placed = λ p l. placed_new old new policy limit end start segment k h p;
      new_laid = h.new_laid;
      new_next = refl;
      new_runs = refl;
      new_kept = omega arith;
      new_bytes = λ p l. refl;
    })
    h.bounded (cut_new old new limit end start segment k h)

counts_new : (old new : Window) (fin : Option ℕ) (rbuf limit end start : ℕ) (segment : List ℕ) (k : ℕ) → IsAllNew old new limit end start segment k
    → record { new = k; old = 0; differ = 0; over = length segment - k } ≡ counts_viewed (view_of old fin rbuf) limit start segment
counts_new old new fin rbuf limit end start segment k h =
    let middle = take (k - 0) (drop 0 segment) in
    let rest = take (k - k) (drop k segment) in
    let ck : k ≡ min (limit - start) (length segment) = h.within in
    let part : length middle ≡ k - 0 = length-part 0 k segment (omega arith) (omega arith) in
    let len : length middle ≡ k = omega arith in
    let len2 : length rest ≡ k - k = length-part k k segment (omega arith) (omega arith) in
    let none2 : length rest ≡ 0 = omega arith in
    let bare : (i : ℕ) → i < length middle → is_covered (runs_of old.runs) (start + i) ≡ false = λ i l.
    covered_of_accepted old.next (runs_of old.runs) (start + i) (h.free (start + i) (omega arith) (omega arith)) in
    let none : (i : ℕ) → i < length rest → ⊥ = λ i l. omega arith in
    let taken : Judged = record { new = k; old = 0; differ = 0 } in
    let again : Judged = record { new = 0; old = 0; differ = 0 } in
    let all_new : taken ≡ taken_tally old start middle = tally_is taken (taken_tally old start middle)
    (sym (count_below-all (λ i. not (is_covered (runs_of old.runs) (start + i))) (length middle) (λ i l. ap not (bare i l)) ∙ len))
    (sym (count_below-none (λ i. is_covered (runs_of old.runs) (start + i)) (length middle) bare))
    (sym (count_below-none (λ i. is_covered (runs_of old.runs) (start + i) && not (eqb (byte_at old (start + i)) (slice_index middle i))) (length middle)
    (λ i l. ap (λ b. b && not (eqb (byte_at old (start + i)) (slice_index middle i))) (bare i l)))) in
    let no_more : again ≡ taken_tally old (start + k) rest = rw none2 refl in
    let made : Placed = record { new = k; old = 0 + 0 + 0; differ = 0 + 0 + 0; over = length segment - k + 0 } in
    placed_is _ made refl (omega arith) (omega arith) (omega arith)
    ∙ counts_placed old fin rbuf limit end start 0 k k segment h.old_laid h.bounded (cut_new old new limit end start segment k h) taken again 0 start (omega arith) all_new no_more refl

pub takes_all : (old new : Window) (limit end rbuf start : ℕ) (segment : List ℕ) (k : ℕ) → IsAllNew old new limit end start segment k
    → (IsSized old rbuf → IsSized new rbuf) → KeepsBounds (λ m. limit ≤ m) IsBounded old new → TakesAll limit rbuf start segment old new
takes_all old new limit end rbuf start segment k h sized bounded =
    let made : ℕ → Placed = λ x. record { new = x; old = 0; differ = 0; over = length segment - x } in
    record {
      places = λ policy old_sized. record {
        laid = h.new_laid;
        sized = sized old_sized;
        bounded = bounded;
        steps = λ fin. steps_new old new policy fin rbuf limit end start segment k h;
      };
      counts = λ fin. ap made (sym h.within) ∙ counts_new old new fin rbuf limit end start segment k h;
    }
