use Rattle.std.proofs.Common.{◌∙◌, ◌/◌, ◌∷◌, ◌++◌, false, List, ℕ, ap, sym, arith}
use Rattle.std.specs.Fmt.{digit_glyph}
use Rattle.std.proofs.lemmas.Fmt.{hex_two_digits}
use Rattle.report_text.specs.Backward.{text_in}
use Rattle.report_text.proofs.backward.BackwardLine.put_short.Goals as goal

pub returns-clause-text : goal.returns-clause-text
returns-clause-text c =
    let n : ℕ = c.args.n in
    let old : List ℕ = text_in c.args.self.now in
    c.put_digit-3.ensures.text
    ∙ (ap (λ (t : List ℕ). digit_glyph false (n / 16) ∷ t) c.put_digit-2.ensures.text
    ∙ sym (ap (λ (ds : List ℕ). ds ++ old) (hex_two_digits false n (omega arith) (omega (arith, c.requires.0)))))
