use Rattle.std.proofs.Common.{◌+◌, ◌++◌, Some, ap, sym, ◌∙◌, true≢false}
use Rattle.std.specs.FinMap as map
use Rattle.flow_table.specs.Table.{key_cmp, found, unboxed}
use Rattle.flow_table.proofs.Entries.{held, found-remove, len-closed}
use Rattle.flow_table.proofs.Apart.{found_in_pairs, found_in_flows, removed_in_pairs, removed_in_flows, last_is_found, other_than_pairs, without_last, some_key}
use Rattle.flow_table.proofs.table.FlowTable.take_any.Goals as goal

pub returns-in-Some-clause-value : goal.returns-in-Some-clause-value
returns-in-Some-clause-value g c =
    ap (λ key. found c.args.self.now key) c.key.ensures.key ∙ ap (λ m. found m c.in-Some.pair) (sym c.self.view_is)
    ∙ found_in_pairs c.self.inside.pairs.entries c.self.inside.flows.entries c.self.invariant c.in-Some.pair c.key.ensures.ipv4
    ∙ ap held (last_is_found c.self.inside.pairs.entries c.pop.new.self.entries (c.in-Some.pair, c.in-Some.boxed) c.in-Some.ensures.entries c.in-Some.ensures.updates.1)
    ∙ ap Some (sym c.into_inner.ensures)

pub returns-in-Some-clause-removed : goal.returns-in-Some-clause-removed
returns-in-Some-clause-removed g c =
    removed_in_pairs c.self.inside.pairs.entries c.self.inside.flows.entries c.self.invariant c.in-Some.pair c.pop.new.self.entries c.key.ensures.ipv4 c.in-Some.ensures.updates.0
    ∙ (λ i. map.remove (c.self.view_is i) (sym c.key.ensures.key i))

pub returns-in-Some-clause-empty : goal.returns-in-Some-clause-empty
returns-in-Some-clause-empty g c = (
  (λ none. absurd (true≢false none)),
  (λ empty. absurd (some_key c.args.self.now c.key.result c.into_inner.result (returns-in-Some-clause-value g c) empty)),
)

pub returns-in-Some-clause-found : goal.returns-in-Some-clause-found
returns-in-Some-clause-found g c = λ other. ap (λ m. found m other) (returns-in-Some-clause-removed g c) ∙ found-remove c.args.self.now c.key.result other

pub returns-in-Some-clause-len : goal.returns-in-Some-clause-len
returns-in-Some-clause-len g c = ap (λ m. map.len m + 1) (returns-in-Some-clause-removed g c) ∙ len-closed c.args.self.now c.key.result c.into_inner.result (returns-in-Some-clause-value g c)

pub returns-in_ok-key-in-None-clause-value : goal.returns-in_ok-key-in-None-clause-value
returns-in_ok-key-in-None-clause-value g c =
    let last = last_is_found c.self.inside.flows.entries c.pop-in-None.new.self.entries (c.in_ok-key-in-None.key, c.in_ok-key-in-None.boxed) c.in_ok-key-in-None.ensures.entries c.in_ok-key-in-None.ensures.updates.1 in
    ap (λ m. found m c.in_ok-key-in-None.key) (sym c.self.view_is)
    ∙ found_in_flows c.self.inside.pairs.entries c.self.inside.flows.entries c.self.invariant c.in_ok-key-in-None.key (other_than_pairs c.self.inside.pairs.entries c.self.inside.flows.entries c.self.invariant c.in_ok-key-in-None.key c.in_ok-key-in-None.boxed last)
    ∙ ap held last
    ∙ ap Some (sym c.into_inner-in-None.ensures)

pub returns-in_ok-key-in-None-clause-removed : goal.returns-in_ok-key-in-None-clause-removed
returns-in_ok-key-in-None-clause-removed g c =
    let last = last_is_found c.self.inside.flows.entries c.pop-in-None.new.self.entries (c.in_ok-key-in-None.key, c.in_ok-key-in-None.boxed) c.in_ok-key-in-None.ensures.entries c.in_ok-key-in-None.ensures.updates.1 in
    ap (λ pairs. map.from_entries {R = key_cmp} (unboxed (pairs ++ c.pop-in-None.new.self.entries))) (without_last c.self.inside.pairs.entries c.pop.new.self.entries c.in-None.ensures.entries)
    ∙ removed_in_flows c.self.inside.pairs.entries c.self.inside.flows.entries c.self.invariant c.in_ok-key-in-None.key c.pop-in-None.new.self.entries
    (other_than_pairs c.self.inside.pairs.entries c.self.inside.flows.entries c.self.invariant c.in_ok-key-in-None.key c.in_ok-key-in-None.boxed last) c.in_ok-key-in-None.ensures.updates.0
    ∙ ap (λ m. map.remove m c.in_ok-key-in-None.key) c.self.view_is

pub returns-in_ok-key-in-None-clause-empty : goal.returns-in_ok-key-in-None-clause-empty
returns-in_ok-key-in-None-clause-empty g c = (
  (λ none. absurd (true≢false none)),
  (λ empty. absurd (some_key c.args.self.now c.in_ok-key-in-None.key c.into_inner-in-None.result (returns-in_ok-key-in-None-clause-value g c) empty)),
)

pub returns-in_ok-key-in-None-clause-found : goal.returns-in_ok-key-in-None-clause-found
returns-in_ok-key-in-None-clause-found g c = λ other. ap (λ m. found m other) (returns-in_ok-key-in-None-clause-removed g c) ∙ found-remove c.args.self.now c.in_ok-key-in-None.key other

pub returns-in_ok-key-in-None-clause-len : goal.returns-in_ok-key-in-None-clause-len
returns-in_ok-key-in-None-clause-len g c = ap (λ m. map.len m + 1) (returns-in_ok-key-in-None-clause-removed g c) ∙ len-closed c.args.self.now c.in_ok-key-in-None.key c.into_inner-in-None.result (returns-in_ok-key-in-None-clause-value g c)
