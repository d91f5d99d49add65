use Rattle.std.proofs.Common.{◌++◌, ◌∙◌}
use Rattle.std.specs.FinMap as map
use Rattle.std.specs.FinMap.{get-empty}
use Rattle.flow_table.specs.Table.{key_cmp, found, unboxed}
use Rattle.flow_table.proofs.table.FlowTable.with_seed.Goals as goal

pub returns-clause-none : goal.returns-clause-none
returns-clause-none g c = λ key.
    (λ i. found (map.from_entries (unboxed (c.with_hasher.ensures.empty i ++ c.with_hasher-2.ensures.empty i))) key) ∙ get-empty key_cmp key
