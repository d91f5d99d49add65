use Rattle.std.proofs.Common.{Some, ap, sym, subst, ◌∙◌}
use Rattle.std.specs.FinMap as map
use Rattle.flow_table.specs.Table.{found}
use Rattle.flow_table.proofs.Entries.{Differ, found-insert, len-opened}
use Rattle.flow_table.proofs.Apart.{inserted_in_pairs, inserted_in_flows}
use Rattle.flow_table.proofs.table.FlowTable.open.Goals as goal

pub returns-in-Ok-insert-clause-ok : goal.returns-in-Ok-insert-clause-ok
returns-in-Ok-insert-clause-ok g c =
    inserted_in_pairs c.self.inside.pairs.entries c.self.inside.flows.entries c.self.invariant c.args.key c.insert.new.self.entries c.in-Ok.boxed (sym c.in-Some.ensures.ipv4)
    (subst (λ k. Differ c.self.inside.pairs.entries c.insert.new.self.entries k (Some c.in-Ok.boxed)) c.in-Some.ensures.pair c.in-Ok-insert.ensures.updates.0)
    ∙ (λ i. map.insert (c.self.view_is i) c.args.key (c.in-Ok.ensures.ok i))

pub returns-in-Ok-insert-clause-found : goal.returns-in-Ok-insert-clause-found
returns-in-Ok-insert-clause-found g c = λ other.
    ap (λ m. found m other) (returns-in-Ok-insert-clause-ok g c) ∙ found-insert c.args.self.now c.args.key c.args.value other

pub returns-in-Ok-insert-clause-len : goal.returns-in-Ok-insert-clause-len
returns-in-Ok-insert-clause-len g c =
    ap (λ m. map.len m) (returns-in-Ok-insert-clause-ok g c) ∙ len-opened c.args.self.now c.args.key c.args.value c.requires.absent

pub returns-in-Ok-insert-2-clause-ok : goal.returns-in-Ok-insert-2-clause-ok
returns-in-Ok-insert-2-clause-ok g c =
    inserted_in_flows c.self.inside.pairs.entries c.self.inside.flows.entries c.self.invariant c.args.key c.insert-in-None.new.self.entries c.in-Ok.boxed (sym c.in-None.ensures.ipv4)
    c.in-Ok-insert-2.ensures.updates.0
    ∙ (λ i. map.insert (c.self.view_is i) c.args.key (c.in-Ok.ensures.ok i))

pub returns-in-Ok-insert-2-clause-found : goal.returns-in-Ok-insert-2-clause-found
returns-in-Ok-insert-2-clause-found g c = λ other.
    ap (λ m. found m other) (returns-in-Ok-insert-2-clause-ok g c) ∙ found-insert c.args.self.now c.args.key c.args.value other

pub returns-in-Ok-insert-2-clause-len : goal.returns-in-Ok-insert-2-clause-len
returns-in-Ok-insert-2-clause-len g c =
    ap (λ m. map.len m) (returns-in-Ok-insert-2-clause-ok g c) ∙ len-opened c.args.self.now c.args.key c.args.value c.requires.absent
