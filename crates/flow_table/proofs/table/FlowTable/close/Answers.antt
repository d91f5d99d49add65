use Rattle.std.proofs.Common.{◌+◌, Some, ap, sym, ◌∙◌}
use Rattle.std.specs.FinMap as map
use Rattle.flow_table.specs.Table.{found}
use Rattle.flow_table.proofs.Entries.{found-remove, len-closed}
use Rattle.flow_table.proofs.table.FlowTable.close.Goals as goal

pub returns-in_err-boxed-clause-found : goal.returns-in_err-boxed-clause-found
returns-in_err-boxed-clause-found g c = λ other. ap (λ m. found m other) c.remove.ensures.removed ∙ found-remove c.args.self.now c.args.key.now other

pub returns-clause-value : goal.returns-clause-value
returns-clause-value g c = ap Some c.into_inner.ensures ∙ c.in_ok-boxed.ensures.value

pub returns-clause-found : goal.returns-clause-found
returns-clause-found g c = λ other. ap (λ m. found m other) c.remove.ensures.removed ∙ found-remove c.args.self.now c.args.key.now other

pub returns-clause-len : goal.returns-clause-len
returns-clause-len g c =
    ap (λ m. map.len m + 1) c.remove.ensures.removed
    ∙ len-closed c.args.self.now c.args.key.now c.into_inner.result (sym (returns-clause-value g c))
