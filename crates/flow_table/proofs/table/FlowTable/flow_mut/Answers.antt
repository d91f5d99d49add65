use Rattle.std.proofs.Common.{Some, is_some, refl, ap, sym, subst, ◌++◌, ◌∙◌}
use Rattle.std.specs.Box.{with_value}
use Rattle.std.specs.FinMap as map
use Rattle.flow_table.specs.Table.{key_cmp, found, Rewrites, unboxed}
use Rattle.flow_table.proofs.Entries.{held, written}
use Rattle.flow_table.proofs.Apart.{among_flows, differ_by_flows, found_in_flows}
use Rattle.flow_table.proofs.table.FlowTable.flow_mut.Goals as goal

pub returns-in-Some : goal.returns-in-Some
returns-in-Some g c = (
  (
    refl,
    (λ w. let after = c.get_mut.follows.lender (with_value c.in-Some.boxed.now w) in
        subst (λ m. Rewrites m (map.from_entries {R = key_cmp} (unboxed (c.self.inside.pairs.entries ++ after.entries))) c.args.key.now w) c.self.view_is
        (written c.in-Some.boxed.now (c.self.inside.pairs.entries ++ c.self.inside.flows.entries) (c.self.inside.pairs.entries ++ after.entries) c.args.key.now w
        (c.in-Some.ensures.value ∙ sym (among_flows c.self.inside.pairs.entries c.self.inside.flows.entries c.self.invariant c.args.key.now c.requires.other))
        (differ_by_flows c.self.inside.pairs.entries c.self.inside.flows.entries c.self.invariant c.args.key.now after.entries (Some (with_value c.in-Some.boxed.now w)) c.requires.other
        (((c.get_mut.follows.holds (with_value c.in-Some.boxed.now w)).3 (ap is_some (sym c.in-Some.ensures.value))).0)))),
    refl,
  ),
  record {
    writes_back = tt;
    value = ap Some c.as_mut.ensures.value ∙ ap held c.in-Some.ensures.value
        ∙ sym (found_in_flows c.self.inside.pairs.entries c.self.inside.flows.entries c.self.invariant c.args.key.now c.requires.other) ∙ ap (λ m. found m c.args.key.now) c.self.view_is;
  },
)

pub returns-in-None : goal.returns-in-None
returns-in-None g c = (
  (
    refl,
    (λ w. tt),
    ap (λ flows. map.from_entries {R = key_cmp} (unboxed (c.self.inside.pairs.entries ++ flows.entries))) c.get_mut.follows.holds-at-none ∙ c.self.view_is,
  ),
  record {
    writes_back = tt;
    value = ap held c.in-None.ensures.value
        ∙ sym (found_in_flows c.self.inside.pairs.entries c.self.inside.flows.entries c.self.invariant c.args.key.now c.requires.other) ∙ ap (λ m. found m c.args.key.now) c.self.view_is;
  },
)
