use Rattle.std.proofs.Common.{◌≡◌, ◌<◌, ◌≤◌, arith, ⊎_elim}
use Rattle.std.proofs.lemmas.Bool.{cases_eq}
use Rattle.reassembly.specs.Waiting.{runs_of}
use Rattle.reassembly.proofs.Listed.{items_apart, items_same}
use Rattle.reassembly.proofs.waiting.Runs.first_touching.Goals as goal

pub returns-in_default-clause-before : goal.returns-in_default-clause-before
returns-in_default-clause-before c run item l =
    let runs = runs_of c.args.self.now in
    let last = c.in-Some.run' in
    let has = c.in-Some.ensures.some in
    let from : last.start ≤ c.args.low = has.1 in
    ⊎_elim
    (λ (same : run.start ≡ last.start). rw (items_same runs c.requires run last item has.0 same) (omega arith))
    (λ (other : run.start ≡ last.start → ⊥).
    let order : run.start ≤ last.start = has.2 run item (omega arith) in
    let apart : run.end < last.start = items_apart runs c.requires run last item has.0 (omega arith) in
    omega arith)
    (cases_eq run.start last.start)
