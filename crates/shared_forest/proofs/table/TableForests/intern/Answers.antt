use Rattle.std.proofs.Common.{ℕ, get_or, [], ap, ◌∙◌}
use Rattle.std.proofs.lemmas.Option.{get_or_from_slice_get}
use Rattle.shared_forest.specs.Lists.{TreeLists}
use Rattle.shared_forest.proofs.table.TableForests.intern.Goals as goal

pub returns-clause-content : goal.returns-clause-content
returns-clause-content c =
    let none : TreeLists = record { nodes = []; slots = [] } in
    ap (λ (k : ℕ). get_or c.row_for.new.rows.keys k none) c.at.ensures ∙ get_or_from_slice_get c.row_for.new.rows.keys c.in_ok-row.row c.args.tree none c.in_ok-row.ensures.row
