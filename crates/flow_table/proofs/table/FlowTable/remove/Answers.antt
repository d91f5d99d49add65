use Rattle.std.proofs.Common.{None, ap, sym, subst, ◌∙◌}
use Rattle.std.specs.FinMap as map
use Rattle.std.specs.Map.{lookup}
use Rattle.flow_table.specs.Table.{found}
use Rattle.flow_table.specs.contracts.key.KeyPartialEq.TheImpl.{ghosts as ends}
use Rattle.flow_table.proofs.Entries.{held, Differ}
use Rattle.flow_table.proofs.Apart.{found_in_pairs, found_in_flows, removed_in_pairs, removed_in_flows}
use Rattle.flow_table.proofs.table.FlowTable.remove.Goals as goal

pub returns-in-Some-clause-value : goal.returns-in-Some-clause-value
returns-in-Some-clause-value g c =
    ap held c.swap_remove.ensures.value ∙ ap (λ k. held (lookup (ends.eq k) c.self.inside.pairs.entries)) c.in-Some.ensures.pair
    ∙ sym (found_in_pairs c.self.inside.pairs.entries c.self.inside.flows.entries c.self.invariant c.args.key.now (sym c.in-Some.ensures.ipv4)) ∙ ap (λ m. found m c.args.key.now) c.self.view_is

pub returns-in-Some-clause-removed : goal.returns-in-Some-clause-removed
returns-in-Some-clause-removed g c =
    removed_in_pairs c.self.inside.pairs.entries c.self.inside.flows.entries c.self.invariant c.args.key.now c.swap_remove.new.self.entries (sym c.in-Some.ensures.ipv4)
    (subst (λ k. Differ c.self.inside.pairs.entries c.swap_remove.new.self.entries k None) c.in-Some.ensures.pair c.swap_remove.ensures.updates.0)
    ∙ ap (λ m. map.remove m c.args.key.now) c.self.view_is

pub returns-in-None-clause-value : goal.returns-in-None-clause-value
returns-in-None-clause-value g c =
    ap held c.swap_remove-in-None.ensures.value
    ∙ sym (found_in_flows c.self.inside.pairs.entries c.self.inside.flows.entries c.self.invariant c.args.key.now (sym c.in-None.ensures.ipv4)) ∙ ap (λ m. found m c.args.key.now) c.self.view_is

pub returns-in-None-clause-removed : goal.returns-in-None-clause-removed
returns-in-None-clause-removed g c =
    removed_in_flows c.self.inside.pairs.entries c.self.inside.flows.entries c.self.invariant c.args.key.now c.swap_remove-in-None.new.self.entries (sym c.in-None.ensures.ipv4)
    c.swap_remove-in-None.ensures.updates.0
    ∙ ap (λ m. map.remove m c.args.key.now) c.self.view_is
