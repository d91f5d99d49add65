use Rattle.std.proofs.Common.{◌<◌, ◌≤◌, ⊎_elim}
use Rattle.std.proofs.lemmas.Bool.{cases_lt}
use Rattle.std.proofs.lemmas.Map.Keys.{le_from_not_gt}
use Rattle.reassembly.proofs.Listed.{found, looked_up, has_key, less, below_of_less}
use Rattle.reassembly.proofs.waiting.Runs.above.Goals as goal

pub returns-in_default-clause-none : goal.returns-in_default-clause-none
returns-in_default-clause-none c other has = ⊎_elim
    (λ (l : c.args.position < other.start).
    let r = c.range.ensures.in_range tt in
    absurd (cc (r.5 c.in_default.ensures.steps.0 other.start (less c.args.position other.start l, tt), looked_up c.args.self.now.map c.range.ensures.ordered other has)))
    (λ (l : other.start ≤ c.args.position). l)
    (cases_lt c.args.position other.start)

pub returns-clause-some : goal.returns-clause-some
returns-clause-some c =
    let r = rw c.in-Some.ensures.steps at (c.range.ensures.in_range tt) in
    let here = r.1 in (
      found c.args.self.now.map c.range.ensures.ordered c.in-Some.start.now c.in-Some.end.now here.1,
      below_of_less c.args.position c.in-Some.start.now here.0.0,
      λ other has l. le_from_not_gt c.in-Some.start.now other.start (r.2 other.start (less c.args.position other.start l, tt) (has_key c.args.self.now.map c.range.ensures.ordered other has)),
    )
