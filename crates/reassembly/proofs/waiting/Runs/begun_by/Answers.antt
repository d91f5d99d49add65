use Rattle.std.proofs.Common.{◌<◌, ◌≤◌, ⊎_elim}
use Rattle.std.proofs.lemmas.Bool.{cases_lt}
use Rattle.std.proofs.lemmas.Map.Keys.{le_from_not_gt, ge_from_not_lt}
use Rattle.reassembly.proofs.Listed.{found, looked_up, has_key, not_gt}
use Rattle.reassembly.proofs.waiting.Runs.begun_by.Goals as goal

pub returns-in_default-clause-none : goal.returns-in_default-clause-none
returns-in_default-clause-none c other has = ⊎_elim
    (λ (l : c.args.position < other.start). l)
    (λ (l : other.start ≤ c.args.position).
    let r = c.range.ensures.in_range tt in
    absurd (cc (r.5 c.in_default.ensures.steps.0 other.start (tt, not_gt other.start c.args.position l), looked_up c.args.self.now.map c.range.ensures.ordered other has)))
    (cases_lt c.args.position other.start)

pub returns-clause-some : goal.returns-clause-some
returns-clause-some c =
    let r = c.range.ensures.in_range tt in
    let here = r.3 _ _ c.in-Some.ensures.steps in (
      found c.args.self.now.map c.range.ensures.ordered c.in-Some.start.now c.in-Some.end.now here.1,
      le_from_not_gt c.in-Some.start.now c.args.position here.0.1,
      λ other has l. ge_from_not_lt c.in-Some.start.now other.start (r.4 _ _ c.in-Some.ensures.steps other.start
          (tt, not_gt other.start c.args.position l) (has_key c.args.self.now.map c.range.ensures.ordered other has)),
    )
