use Rattle.std.proofs.Common.{None, leb, List, ◌∙◌, ap, sym, subst, rules, arith}
use Rattle.std.specs.List.Sorted.{IsNonDecreasingBy}
use Rattle.std.proofs.lemmas.List.Sorted.{IsPartitionPoint-from_clause, IsPartitionedBy-leb}
use Rattle.control_script.specs.declared.script.Row.{Row}
use Rattle.control_script.specs.declared.stamped.Stamped.{Stamped}
use Rattle.control_script.specs.Versions.{ceil}
use Rattle.control_script.proofs.Marks.{num, latest-rises, seen-is}
use Rattle.control_script.proofs.script.Script.seen.Goals as goal

pub returns-clause-ceil : goal.returns-clause-ceil
returns-clause-ceil c =
    let rows = c.self.inside.rows.items in
    let n = c.args.n in
    let i = c.partition_point.result in
    let rises : IsNonDecreasingBy (λ (r : Row). num r.latest) c.deref.result.now = subst (IsNonDecreasingBy (λ (r : Row). num r.latest))
    (sym c.deref.ensures.value) (latest-rises None 0 0 rows c.self.invariant.marked) in
    let point = IsPartitionPoint-from_clause (λ (r : Row). leb (num r.latest) n) c.deref.result.now i c.partition_point.ensures.partitioned
    (IsPartitionedBy-leb (λ (r : Row). num r.latest) c.deref.result.now n rises) (λ a r q k. search rules) in
    seen-is rows i n c.self.invariant.marked (omega (arith, c.partition_point.ensures.bound, c.deref.ensures.len)) (rw c.deref.ensures.value at point)
    ∙ ap (λ (ss : List Stamped). ceil ss n) c.self.view_is
