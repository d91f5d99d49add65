use Rattle.std.proofs.Common.{◌≡◌, false, ap, sym, ◌∙◌, [], ◌∷◌, ◌++◌, ℕ, arith}
use Rattle.std.specs.Prelude.{◌==◌}
use Rattle.std.proofs.lemmas.Bool.Decides.{nat_tests}
use Rattle.control_script.specs.Lines.{without_return}
use Rattle.control_script.proofs.Texts.{return-dropped, other-kept}
use Rattle.control_script.proofs.lines.without_return.Goals as goal

pub returns-then-last-eq13 : goal.returns-then-last-eq13
returns-then-last-eq13 c =
    let front = c.in-Some.front.now in
    sym (ap without_return c.in-Some.ensures.cases.0 ∙ ap (λ (b : ℕ). without_return (front ++ b ∷ [])) c.if-last-eq13.true ∙ return-dropped front)

pub returns-else-last-eq13 : goal.returns-else-last-eq13
returns-else-last-eq13 c =
    let front = c.in-Some.front.now in
    let last = c.in-Some.last.now in
    let other : (last == 13) ≡ false = grind (arith, nat_tests) in
    c.in-Some.ensures.cases.0 ∙ sym (ap without_return c.in-Some.ensures.cases.0 ∙ other-kept front last other)
