use Rattle.std.proofs.Common.{subst}
use Rattle.shared_forest.specs.Rows.{TableRows, AreDifferent}
use Rattle.shared_forest.proofs.Rows.{different}
use Rattle.shared_forest.proofs.table.Table.rows.Goals as goal

pub returns-clause-different : goal.returns-clause-different
returns-clause-different c =
    subst (λ (table : TableRows). AreDifferent table.rows) c.self.view_is (different c.self.inside.rows.keys c.len.ensures.unique)
