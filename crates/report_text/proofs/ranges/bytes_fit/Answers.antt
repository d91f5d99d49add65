use Rattle.std.proofs.Common.{arith}
use Rattle.report_text.proofs.ReadFits.{bytes-test}
use Rattle.report_text.proofs.ranges.bytes_fit.Goals as goal

pub returns : goal.returns
returns c = bytes-test c.args.bytes.now (λ i. let f = c.type_inv.bytes i in omega arith)
