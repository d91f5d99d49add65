use Rattle.std.proofs.Common.{◌-◌, arith}
use Rattle.report_text.proofs.ShortLines.{length_index, begins}
use Rattle.report_text.proofs.short.put_beginning.Goals as goal

pub write_digits-at-requires : goal.write_digits-at-requires
write_digits-at-requires c = (omega (arith, length_index c.args.index c.ranges.index.fits), omega arith)

pub overflow_sub-bytes : goal.overflow_sub-bytes
overflow_sub-bytes c = omega (arith, length_index c.args.index c.ranges.index.fits)

pub overflow_sub-bytes-2 : goal.overflow_sub-bytes-2
overflow_sub-bytes-2 c = omega (arith, length_index c.args.index c.ranges.index.fits)

pub overflow_sub-bytes-3 : goal.overflow_sub-bytes-3
overflow_sub-bytes-3 c = omega (arith, length_index c.args.index c.ranges.index.fits)

pub overflow_sub-result : goal.overflow_sub-result
overflow_sub-result c = omega (arith, length_index c.args.index c.ranges.index.fits)

pub returns-clause-text : goal.returns-clause-text
returns-clause-text c =
    let at = c.write_digits-at.result in
    let few = length_index c.args.index c.ranges.index.fits in
    begins _ _ _ at (at - 1) (at - 2) (at - 3) (omega arith) (omega arith) (omega arith) (omega arith) c.write_digits-at.ensures.start c.write_digits-at.ensures.written
