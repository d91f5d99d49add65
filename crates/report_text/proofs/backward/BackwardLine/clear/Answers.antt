use Rattle.std.proofs.Common.{arith}
use Rattle.std.proofs.lemmas.List.{drop_all}
use Rattle.report_text.proofs.backward.BackwardLine.clear.Goals as goal

pub returns-clause-text : goal.returns-clause-text
returns-clause-text c = drop_all 160 c.args.self.now.bytes (omega arith)
