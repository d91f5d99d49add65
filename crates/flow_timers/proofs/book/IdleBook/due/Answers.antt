use Rattle.std.proofs.Common.{refl, ap, sym, ◌∙◌, true≢false, is_some}
use Rattle.flow_timers.proofs.Due.{none_kept, none_past, first_idle, first_least}
use Rattle.flow_timers.proofs.book.IdleBook.due.Goals as goal

pub returns-in_err-first-clause-none : goal.returns-in_err-first-clause-none
returns-in_err-first-clause-none c = (
  (λ _. none_kept c.self.inside.noted c.self.inside.deadlines c.self.invariant c.args.self.now c.self.view_is c.args.now
      c.in_err-first.ensures.none),
  (λ _. ap is_some c.from_residual.ensures),
)

pub returns-then-not-has_passed-clause-none : goal.returns-then-not-has_passed-clause-none
returns-then-not-has_passed-clause-none c = (
  (λ _. none_past c.self.inside.noted c.self.inside.deadlines c.self.invariant c.args.self.now c.self.view_is c.args.now c.in_ok-first.first
      c.in_ok-first.ensures.least (sym c.has_passed.ensures ∙ c.if-not-has_passed.true)),
  (λ _. refl),
)

pub returns-clause-idle : goal.returns-clause-idle
returns-clause-idle c =
    first_idle c.self.inside.noted c.self.inside.deadlines c.self.invariant c.args.self.now c.self.view_is c.args.now c.in_ok-first.first
    c.in_ok-first.ensures.member (sym c.has_passed.ensures ∙ c.if-not-has_passed.false)

pub returns-clause-least : goal.returns-clause-least
returns-clause-least c =
    first_least c.self.inside.noted c.self.inside.deadlines c.self.invariant c.args.self.now c.self.view_is c.args.now c.in_ok-first.first
    c.in_ok-first.ensures.member c.in_ok-first.ensures.least

pub returns-clause-none : goal.returns-clause-none
returns-clause-none c = (
  (λ some. absurd (true≢false some)),
  (λ none. sym (returns-clause-idle c) ∙ none c.in_ok-first.first.name),
)
