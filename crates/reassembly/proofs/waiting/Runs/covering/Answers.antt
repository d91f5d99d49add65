use Rattle.std.proofs.Common.{◌≡◌, ◌<◌, ◌≤◌, arith, ⊎_elim}
use Rattle.std.proofs.lemmas.Bool.{cases_eq}
use Rattle.reassembly.specs.Waiting.{runs_of}
use Rattle.reassembly.proofs.Listed.{none_covers, items_apart, items_same}
use Rattle.reassembly.proofs.waiting.Runs.covering.Goals as goal

pub returns-in_default-clause-none : goal.returns-in_default-clause-none
returns-in_default-clause-none c =
    let runs = runs_of c.args.self.now in
    let last = c.in-Some.run' in
    let has = c.in-Some.ensures.some in
    none_covers runs c.args.position (λ run item l. ⊎_elim
    (λ (same : run.start ≡ last.start). rw (items_same runs c.requires run last item has.0 same) (omega arith))
    (λ (other : run.start ≡ last.start → ⊥).
    let order : run.start ≤ last.start = has.2 run item l in
    let apart : run.end < last.start = items_apart runs c.requires run last item has.0 (omega arith) in
    let from : last.start ≤ c.args.position = has.1 in
    omega arith)
    (cases_eq run.start last.start))

pub returns-in_default-2-clause-none : goal.returns-in_default-2-clause-none
returns-in_default-2-clause-none c =
    none_covers (runs_of c.args.self.now) c.args.position (λ run item l. let b : c.args.position < run.start = c.in_default.ensures.none run item in absurd (omega arith))
