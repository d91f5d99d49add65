use Rattle.std.proofs.Common.{◌+◌, ◌-◌, arith, ap₂, ◌∙◌, take, drop}
use Rattle.reassembly.specs.Laying.{tally_sum}
use Rattle.reassembly.proofs.Laid.{length-part}
use Rattle.reassembly.proofs.Parts.{part_at}
use Rattle.reassembly.proofs.Paged.{tally_in_few, IsLaidOn, laid_on, judged_on}
use Rattle.reassembly.proofs.pages.Pages.lay.Goals as goal

pub added-tally-requires-clause-new : goal.added-tally-requires-clause-new
added-tally-requires-clause-new c =
    let so_far = tally_in_few c.args.self.now c.args.runs.now c.args.low c.args.bytes.now c.loop-done.done c.loop-done.tally c.loop-done.invariant.judged in
    let here = tally_in_few c.loop-done.self c.args.runs.now (c.args.low + c.loop-done.done) _ _ c.lay_part-part.result c.lay_part-part.ensures.judged in
    omega arith

pub added-tally-requires-clause-old : goal.added-tally-requires-clause-old
added-tally-requires-clause-old c =
    let so_far = tally_in_few c.args.self.now c.args.runs.now c.args.low c.args.bytes.now c.loop-done.done c.loop-done.tally c.loop-done.invariant.judged in
    let here = tally_in_few c.loop-done.self c.args.runs.now (c.args.low + c.loop-done.done) _ _ c.lay_part-part.result c.lay_part-part.ensures.judged in
    omega arith

pub added-tally-requires-clause-differ : goal.added-tally-requires-clause-differ
added-tally-requires-clause-differ c =
    let so_far = tally_in_few c.args.self.now c.args.runs.now c.args.low c.args.bytes.now c.loop-done.done c.loop-done.tally c.loop-done.invariant.judged in
    let here = tally_in_few c.loop-done.self c.args.runs.now (c.args.low + c.loop-done.done) _ _ c.lay_part-part.result c.lay_part-part.ensures.judged in
    omega arith

pub loop-done-preserved : goal.loop-done-preserved
loop-done-preserved c =
    let s = c.args.self.now in
    let now = c.loop-done.self in
    let bytes = c.args.bytes.now in
    let done = c.loop-done.done in
    let to = done + c.part_len.result in
    let part = take (to - done) (drop done bytes) in
    let old = c.loop-done.invariant in
    let place = c.lay_part-part.ensures.place in
    let on : IsLaidOn s now c.args.runs.now c.args.low c.args.policy bytes part done (to - done) to = record {
      base = old.place.base;
      from = c.requires.places.from;
      laid = old.laid;
      sum = omega arith;
      part_is = λ i l. part_at done to bytes i 0 l;
      part_len = length-part done to bytes (omega arith) (omega arith);
    } in
    record {
      place = record { base = place.base ∙ old.place.base; keyed = place.keyed; held = λ p h. place.held p (old.place.held p h) };
      within = omega arith;
      laid = laid_on s now c.lay_part-part.new.self c.args.runs.now c.args.low c.args.policy bytes part done (to - done) to on c.lay_part-part.ensures.laid;
      judged = c.added-tally.ensures ∙ ap₂ tally_sum old.judged c.lay_part-part.ensures.judged ∙ judged_on s now c.args.runs.now c.args.low c.args.policy bytes part done (to - done) to on;
    }
