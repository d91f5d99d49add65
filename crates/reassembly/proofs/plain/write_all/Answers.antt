use Rattle.std.proofs.Common.{◌≡◌, ℕ, ◌+◌, suc, arith, ap, ap₂, ◌∙◌, sym, None, Option, get_or-set_other, slice_index, add-one}
use Rattle.reassembly.specs.declared.answers.Placed.{Placed}
use Rattle.reassembly.specs.Receiver.{held}
use Rattle.reassembly.specs.Segment.{cell_after}
use Rattle.reassembly.specs.Plain.{judged_below, counted_more}
use Rattle.reassembly.proofs.Plains.{judged_few, judged_more, written_more}
use Rattle.reassembly.proofs.plain.write_all.Goals as goal

pub counted-placed-requires : goal.counted-placed-requires
counted-placed-requires c =
    let few = judged_few c.args.before c.args.start c.args.bytes.now c.args.cells.now c.loop-i.i c.loop-i.placed c.loop-i.invariant.judged in
    record { few = (omega arith, omega arith, omega arith, omega arith) }

pub loop-i-preserved : goal.loop-i-preserved
loop-i-preserved c =
    let i = c.loop-i.i in
    let start = c.args.start in
    let bytes = c.args.bytes.now in
    let old = c.args.cells.now in
    let before = c.args.before in
    let so_far = c.loop-i.invariant in
    let cell : held c.loop-i.cells (start + i) ≡ held old (start + i) = so_far.rest (start + i) (omega arith) in
    let write : c.written.result ≡ cell_after before.next before.limit c.args.policy (start + i) (held old (start + i)) (slice_index bytes i)
    = c.written.ensures ∙ ap (λ (x : Option ℕ). cell_after before.next before.limit c.args.policy (start + i) x (slice_index bytes i)) cell in
    let count : c.counted-placed.result ≡ judged_below before start bytes old (suc i)
    = c.counted-placed.ensures ∙ ap₂ (λ (x : Placed) (y : Option ℕ). counted_more x before (start + i) y (slice_index bytes i)) so_far.judged cell ∙ judged_more before start bytes old i in
    record {
      done = λ p l. written_more before.next before.limit c.args.policy start i bytes old c.loop-i.cells c.written.result (omega arith) (omega arith) so_far.done so_far.rest write p (omega arith);
      rest = λ p l. get_or-set_other c.loop-i.cells (start + i) p c.written.result None (λ e. omega (arith, e)) ∙ so_far.rest p (omega arith);
      judged = count ∙ ap (judged_below before start bytes old) (sym (add-one i));
    }
