use Rattle.std.proofs.Common.{Some, ap, sym, ◌∙◌, true≢false}
use Rattle.shared_forest.specs.KeyLaws.{same_tree-Decides}
use Rattle.shared_forest.proofs.Rows.{held, rows_if_held, rows_if_new}
use Rattle.shared_forest.proofs.table.row_for.Goals as goal

pub returns-in_err-row-clause-held : goal.returns-in_err-row-clause-held
returns-in_err-row-clause-held c = λ there.
    absurd (true≢false (sym (held c.args.rows.now.keys c.args.tree there) ∙ c.in_err-row.ensures.absent))

pub returns-clause-row : goal.returns-clause-row
returns-clause-row c =
    let at = c.in_ok-row.ensures.stored in
    at.1 ∙ ap Some (sym ((same_tree-Decides c.args.tree at.0).0 at.2))

pub returns-clause-found : goal.returns-clause-found
returns-clause-found c = λ there. c.in_ok-row.ensures.keys ∙ rows_if_held c.args.rows.now.keys c.args.tree there

pub returns-clause-added : goal.returns-clause-added
returns-clause-added c = λ absent. c.in_ok-row.ensures.keys ∙ rows_if_new c.args.rows.now.keys c.args.tree absent
