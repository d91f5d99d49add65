use Rattle.std.proofs.Common.{◌≡◌, ◌<◌, ◌≤◌, List, arith, rules, leb, leb-true, ⊎_elim}
use Rattle.std.proofs.lemmas.Bool.{cases_lt, leb-false}
use Rattle.std.proofs.lemmas.List.Sorted.{IsPartitionedBy-leb, IsPartitionPoint-from_clause, IsNonDecreasingBy-from_default}
use Rattle.std.specs.List.Sorted.{IsNonDecreasingBy}
use Rattle.reassembly.specs.declared.runs.Run.{Run}
use Rattle.reassembly.specs.Runs.{run_at, AreOrdered}
use Rattle.reassembly.proofs.runs.ended_by.Goals as goal

-- the runs end in the order in which they stand
ends_rise : (runs : List Run) → AreOrdered runs → IsNonDecreasingBy (λ (run : Run). run.end) runs
ends_rise runs h = IsNonDecreasingBy-from_default (λ (run : Run). run.end) runs (record { start = 0; end = 0 }) (λ i j order within. ⊎_elim
    (λ (below : i < j).
    let apart : (run_at runs i).end < (run_at runs j).start = h.apart i j below within in
    let filled : (run_at runs j).start < (run_at runs j).end = h.filled j within in
    omega arith)
    (λ (same : j ≤ i). let equal : i ≡ j = omega arith in rw equal (omega arith))
    (cases_lt i j))

pub returns : goal.returns
returns c =
    let runs = c.args.runs.now in
    let none : Run = record { start = 0; end = 0 } in
    let point = IsPartitionPoint-from_clause (λ (run : Run). leb run.end c.args.position) runs _ c.partition_point.ensures.partitioned
    (IsPartitionedBy-leb (λ (run : Run). run.end) runs c.args.position (ends_rise runs c.requires)) (λ a r q k. search rules) in
    record {
      within = c.partition_point.ensures.bound;
      before = λ j l. leb-true (run_at runs j).end c.args.position (point.0 j none (omega arith) l);
      after = λ j from l. leb-false (run_at runs j).end c.args.position (point.1 j none from l);
    }
