use Rattle.std.proofs.Common.{arith}
use Rattle.report_text.proofs.ShortLines.{length_index}
use Rattle.report_text.proofs.backward.BackwardLine.put_number.Goals as goal

pub write_digits-self-requires : goal.write_digits-self-requires
write_digits-self-requires c = (omega (arith, length_index c.args.n c.ranges.n.fits), omega arith)

pub returns-clause-room : goal.returns-clause-room
returns-clause-room c = omega (arith, length_index c.args.n c.ranges.n.fits)
