-- Only for proofs. One byte after another, as the plain receiver judges them.
use Rattle.std.specs.Prelude.{ℕ, ◌+◌, List, Option, slice_index, if◌then◌else◌}
use Rattle.reassembly.specs.declared.answers.Placed.{Placed}
use Rattle.reassembly.specs.declared.plain.Before.{Before}
use Rattle.reassembly.specs.Receiver.{held}
use Rattle.reassembly.specs.Segment.{is_old, is_new, is_beyond, is_differing, count_below}

-- the counts with one byte more
abbrev pub counted_more : Placed → Before → ℕ → Option ℕ → ℕ → Placed
counted_more placed before p c b = record {
  new = placed.new + (if is_new before.next before.limit p c then 1 else 0);
  old = placed.old + (if is_old before.next p c then 1 else 0);
  differ = placed.differ + (if is_differing before.next before.rbuf p c b then 1 else 0);
  over = placed.over + (if is_beyond before.next before.limit p c then 1 else 0);
}

-- the counts of the first n bytes
abbrev pub judged_below : Before → ℕ → List ℕ → List (Option ℕ) → ℕ → Placed
judged_below before q bytes cells n = record {
  new = count_below (λ i. is_new before.next before.limit (q + i) (held cells (q + i))) n;
  old = count_below (λ i. is_old before.next (q + i) (held cells (q + i))) n;
  differ = count_below (λ i. is_differing before.next before.rbuf (q + i) (held cells (q + i)) (slice_index bytes i)) n;
  over = count_below (λ i. is_beyond before.next before.limit (q + i) (held cells (q + i))) n;
}
