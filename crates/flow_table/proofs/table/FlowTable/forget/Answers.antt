use Rattle.std.proofs.Common.{ap, ◌∙◌}
use Rattle.flow_table.specs.Table.{found}
use Rattle.flow_table.proofs.Entries.{found-remove}
use Rattle.flow_table.proofs.table.FlowTable.forget.Goals as goal

pub returns-clause-found : goal.returns-clause-found
returns-clause-found g c = λ other. ap (λ m. found m other) c.remove.ensures.removed ∙ found-remove c.args.self.now c.args.key.now other
