use Rattle.std.proofs.Common.{◌≡◌, ℕ, ◌+◌, ◌-◌, ◌<◌, ◌≤◌, arith, length, take, drop, refl, ap₂, ◌∙◌}
use Rattle.reassembly.specs.Runs.{is_covered}
use Rattle.reassembly.specs.Laying.{tally_sum}
use Rattle.reassembly.proofs.Parts.{part_at}
use Rattle.reassembly.proofs.Laid.{tally_few, stretch_few, tally_more, laid_part, length-part}
use Rattle.reassembly.proofs.laying.lay.Goals as goal

pub added-tally-requires-clause-new : goal.added-tally-requires-clause-new
added-tally-requires-clause-new c =
    let so_far = tally_few _ _ _ _ _ _ c.loop-at.invariant.judged in
    let here = stretch_few _ _ _ _ c.lay_stretch-part.ensures.tally in
    omega arith

pub added-tally-requires-clause-old : goal.added-tally-requires-clause-old
added-tally-requires-clause-old c =
    let so_far = tally_few _ _ _ _ _ _ c.loop-at.invariant.judged in
    let here = stretch_few _ _ _ _ c.lay_stretch-part.ensures.tally in
    omega arith

pub added-tally-requires-clause-differ : goal.added-tally-requires-clause-differ
added-tally-requires-clause-differ c =
    let so_far = tally_few _ _ _ _ _ _ c.loop-at.invariant.judged in
    let here = stretch_few _ _ _ _ c.lay_stretch-part.ensures.tally in
    omega arith

pub loop-at-preserved : goal.loop-at-preserved
loop-at-preserved c =
    let runs = c.args.runs.now in
    let start = c.args.start in
    let a = c.loop-at.at - start in
    let b = c.next_stretch-next.result.end - start in
    let segment = c.args.segment.now in
    let cells = c.loop-at.cells in
    let is_old = c.next_stretch-next.result.is_old in
    let old = c.loop-at.invariant in
    let step = c.next_stretch-next.ensures in
    let some : c.loop-at.at < c.next_stretch-next.result.end = step.some in
    let within : c.next_stretch-next.result.end ≤ start + length segment = step.within in
    let same : length cells ≡ length segment = omega arith in
    let alike : (i : ℕ) → i < b - a → is_covered runs (start + (a + i)) ≡ is_old = λ i l. step.alike (start + (a + i)) (omega arith) (omega arith) in
    let laid = laid_part runs start a b c.args.policy c.args.cells.now segment cells c.lay_stretch-part.new.cells is_old
    (omega arith) (omega arith) same (record { done = old.done; rest = old.rest }) alike c.lay_stretch-part.ensures.cells in
    record {
      end = refl;
      from = omega arith;
      within = within;
      next = step.cursor;
      done = laid.done;
      rest = laid.rest;
      judged = c.added-tally.ensures ∙ ap₂ tally_sum old.judged c.lay_stretch-part.ensures.tally
          ∙ tally_more runs start a (b - a) b c.args.cells.now segment (take (b - a) (drop a cells)) (take (b - a) (drop a segment)) is_old
          (omega arith) (length-part a b segment (omega arith) (omega arith)) alike
          (λ i l. part_at a b cells i 0 l ∙ old.rest (a + i) (omega arith)) (λ i l. part_at a b segment i 0 l);
    }
