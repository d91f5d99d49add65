use Rattle.std.proofs.Common.{ap, sym, ◌∙◌}
use Rattle.std.specs.FinMap as map
use Rattle.std.specs.Ordering.{nat_cmp}
use Rattle.std.specs.BTreeMap.{get, is_at}
use Rattle.std.specs.Map.{lookup}
use Rattle.flow_timers.proofs.Entries.{inserted}
use Rattle.flow_timers.proofs.Ties.{replaced_by, taken_back_by}
use Rattle.flow_timers.proofs.book.IdleBook.note.Goals as goal

pub invariant_of-self-in-Ok-Some : goal.invariant_of-self-in-Ok-Some
invariant_of-self-in-Ok-Some c = λ d.
    replaced_by (get nat_cmp c.self.inside.noted) (get nat_cmp c.insert-2.new.self) c.args.name c.in-Ok-Some.before (record { last = c.args.last; limit = c.args.limit }) d
    c.of.result c.of-deadline.result _ _ _ c.of.ensures c.of-deadline.ensures
    (c.take_old.ensures d) (c.in_ok-insert.ensures.updates.0 d)
    (sym c.in-Ok-Some.ensures.old ∙ c.in-Ok-Some.field-0-is)
    (c.in-Ok-Some.ensures.updates.0 d.name) (c.self.invariant d)

pub invariant_of-self-in-Err : goal.invariant_of-self-in-Err
invariant_of-self-in-Err c = λ d.
    taken_back_by (get nat_cmp c.self.inside.noted) (get nat_cmp c.insert-2.new.self) c.args.name (record { last = c.args.last; limit = c.args.limit }) d
    c.of-deadline.result _ _ _ c.of-deadline.ensures
    (c.remove.ensures.updates.0 d) (c.in_ok-insert.ensures.updates.0 d)
    c.in-Err.ensures.absent
    (ap (lookup (is_at (nat_cmp d.name))) c.in-Err.ensures.err) (c.self.invariant d)

pub returns-in-Ok-Some-clause-ok : goal.returns-in-Ok-Some-clause-ok
returns-in-Ok-Some-clause-ok c =
    inserted c.self.inside.noted c.insert-2.new.self c.args.name _ c.in-Ok-Some.ensures.updates.0
    ∙ ap (λ m. map.insert m c.args.name (record { last = c.args.last; limit = c.args.limit })) c.self.view_is

pub returns-in-Ok-None-clause-ok : goal.returns-in-Ok-None-clause-ok
returns-in-Ok-None-clause-ok c =
    inserted c.self.inside.noted c.insert-2.new.self c.args.name _ c.in-Ok-None.ensures.updates.0
    ∙ ap (λ m. map.insert m c.args.name (record { last = c.args.last; limit = c.args.limit })) c.self.view_is
