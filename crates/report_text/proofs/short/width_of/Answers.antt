use Rattle.report_text.proofs.ShortLines.{width_one, width_two, width_three}
use Rattle.std.proofs.Common.{arith}
use Rattle.report_text.proofs.short.width_of.Goals as goal

pub returns-then-n-lt10-clause-width : goal.returns-then-n-lt10-clause-width
returns-then-n-lt10-clause-width c = width_one c.args.n c.if-n-lt10.true

pub returns-then-n-lt100-clause-width : goal.returns-then-n-lt100-clause-width
returns-then-n-lt100-clause-width c = width_two c.args.n c.if-n-lt10.false c.if-n-lt100.true

pub returns-else-n-lt100-clause-width : goal.returns-else-n-lt100-clause-width
returns-else-n-lt100-clause-width c = width_three c.args.n c.if-n-lt100.false (omega arith)
