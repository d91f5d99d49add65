-- Not of the headline. What a flow table ends as, once the `&mut` that `get_mut` lent has ended.
use Rattle.std.specs.Prelude.{◌≡◌, Option, OnSome}
use Rattle.std.specs.Borrow.{Fml, RattleType, MutBor, LendsSo}
use Rattle.flow_table.specs.Key.{EndpointPair}
use Rattle.flow_table.specs.Table.{Flows, Rewrites}
use Rattle.flow_table.specs.contracts.table.FlowTable.{the_row}

-- r lends the value of the key: the table ends as it was, with what is last written through r at the key; at `None` it stays as it was
abbrev pub LendsFlow : (T : RattleType) → MutBor (Flows T.Denot) → EndpointPair → Option (MutBor T.Denot) → Fml
LendsFlow T table key r = LendsSo (the_row T) T table r (λ new last. OnSome r (Rewrites table.now new key last)) (λ new. new ≡ table.now)
