use Rattle.std.proofs.Common.{Some, sym, ap, ◌∙◌}
use Rattle.std.specs.Map.{lookup}
use Rattle.std.specs.Option.{option_copied}
use Rattle.flow_table.specs.Table.{found}
use Rattle.flow_table.specs.contracts.key.KeyPartialEq.TheImpl.{ghosts as ends}
use Rattle.flow_table.proofs.Entries.{held}
use Rattle.flow_table.proofs.Apart.{found_in_pairs, found_in_flows}
use Rattle.flow_table.proofs.table.FlowTable.get.Goals as goal

pub returns-in_err-boxed-in-Some : goal.returns-in_err-boxed-in-Some
returns-in_err-boxed-in-Some g c = record {
  value = ap option_copied c.from_residual.ensures ∙ ap held c.in_err-boxed-in-Some.ensures.value
      ∙ ap (λ k. held (lookup (ends.eq k) c.self.inside.pairs.entries)) c.in-Some.ensures.pair
      ∙ sym (found_in_pairs c.self.inside.pairs.entries c.self.inside.flows.entries c.self.invariant c.args.key.now (sym c.in-Some.ensures.ipv4)) ∙ ap (λ m. found m c.args.key.now) c.self.view_is;
}

pub returns-in_ok-boxed-in-Some : goal.returns-in_ok-boxed-in-Some
returns-in_ok-boxed-in-Some g c = record {
  value = ap Some c.as_ref.ensures ∙ ap held c.in_ok-boxed-in-Some.ensures.value
      ∙ ap (λ k. held (lookup (ends.eq k) c.self.inside.pairs.entries)) c.in-Some.ensures.pair
      ∙ sym (found_in_pairs c.self.inside.pairs.entries c.self.inside.flows.entries c.self.invariant c.args.key.now (sym c.in-Some.ensures.ipv4)) ∙ ap (λ m. found m c.args.key.now) c.self.view_is;
}

pub returns-in_err-boxed-in-None : goal.returns-in_err-boxed-in-None
returns-in_err-boxed-in-None g c = record {
  value = ap option_copied c.from_residual-in_err-boxed-in-None.ensures ∙ ap held c.in_err-boxed-in-None.ensures.value
      ∙ sym (found_in_flows c.self.inside.pairs.entries c.self.inside.flows.entries c.self.invariant c.args.key.now (sym c.in-None.ensures.ipv4)) ∙ ap (λ m. found m c.args.key.now) c.self.view_is;
}

pub returns-in_ok-boxed-in-None : goal.returns-in_ok-boxed-in-None
returns-in_ok-boxed-in-None g c = record {
  value = ap Some c.as_ref-in-None.ensures ∙ ap held c.in_ok-boxed-in-None.ensures.value
      ∙ sym (found_in_flows c.self.inside.pairs.entries c.self.inside.flows.entries c.self.invariant c.args.key.now (sym c.in-None.ensures.ipv4)) ∙ ap (λ m. found m c.args.key.now) c.self.view_is;
}
