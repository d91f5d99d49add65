use Rattle.std.proofs.Common.{Some, is_some, refl, ap, sym, subst, ◌++◌, ◌∙◌}
use Rattle.std.specs.Box.{with_value}
use Rattle.std.specs.FinMap as map
use Rattle.flow_table.specs.Table.{key_cmp, found, Rewrites, unboxed}
use Rattle.flow_table.proofs.Entries.{held, written}
use Rattle.flow_table.proofs.Apart.{among_pairs, differ_by_pairs, found_in_pairs}
use Rattle.flow_table.proofs.table.FlowTable.pair_mut.Goals as goal

pub returns-in-Some : goal.returns-in-Some
returns-in-Some g c = (
  (
    refl,
    (λ w. let after = c.get_mut.follows.lender (with_value c.in-Some.boxed.now w) in
        subst (λ m. Rewrites m (map.from_entries {R = key_cmp} (unboxed (after.entries ++ c.self.inside.flows.entries))) c.args.pair.now w) c.self.view_is
        (written c.in-Some.boxed.now (c.self.inside.pairs.entries ++ c.self.inside.flows.entries) (after.entries ++ c.self.inside.flows.entries) c.args.pair.now w
        (c.in-Some.ensures.value ∙ sym (among_pairs c.self.inside.pairs.entries c.self.inside.flows.entries c.self.invariant c.args.pair.now c.requires.ipv4))
        (differ_by_pairs c.self.inside.pairs.entries c.self.inside.flows.entries c.self.invariant c.args.pair.now after.entries (Some (with_value c.in-Some.boxed.now w)) c.requires.ipv4
        (((c.get_mut.follows.holds (with_value c.in-Some.boxed.now w)).3 (ap is_some (sym c.in-Some.ensures.value))).0)))),
    refl,
  ),
  record {
    writes_back = tt;
    value = ap Some c.as_mut.ensures.value ∙ ap held c.in-Some.ensures.value
        ∙ sym (found_in_pairs c.self.inside.pairs.entries c.self.inside.flows.entries c.self.invariant c.args.pair.now c.requires.ipv4) ∙ ap (λ m. found m c.args.pair.now) c.self.view_is;
  },
)

pub returns-in-None : goal.returns-in-None
returns-in-None g c = (
  (
    refl,
    (λ w. tt),
    ap (λ flows. map.from_entries {R = key_cmp} (unboxed (flows.entries ++ c.self.inside.flows.entries))) c.get_mut.follows.holds-at-none ∙ c.self.view_is,
  ),
  record {
    writes_back = tt;
    value = ap held c.in-None.ensures.value
        ∙ sym (found_in_pairs c.self.inside.pairs.entries c.self.inside.flows.entries c.self.invariant c.args.pair.now c.requires.ipv4) ∙ ap (λ m. found m c.args.pair.now) c.self.view_is;
  },
)
