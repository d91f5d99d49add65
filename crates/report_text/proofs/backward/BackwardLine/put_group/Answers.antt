use Rattle.std.proofs.Common.{◌∙◌, ◌/◌, ◌%◌, [], ◌∷◌, ◌++◌, false, List, ℕ, ap, sym, arith, append_assoc}
use Rattle.std.specs.Fmt.{digits, digit_glyph}
use Rattle.report_text.proofs.HexDigits.{group_digits}
use Rattle.report_text.specs.Backward.{text_in}
use Rattle.report_text.proofs.backward.BackwardLine.put_group.Goals as goal

pub returns-clause-text : goal.returns-clause-text
returns-clause-text c =
    let n : ℕ = c.args.group in
    let old : List ℕ = text_in c.args.self.now in
    let third : ℕ = digit_glyph false (n / 16 % 16) in
    let fourth : ℕ = digit_glyph false (n % 16) in
    c.put_short-2.ensures.text
    ∙ (ap (λ (t : List ℕ). digits 16 false (n / 256) ++ t) (c.put_digit-2.ensures.text ∙ ap (λ (t : List ℕ). third ∷ t) c.put_digit.ensures.text)
    ∙ sym (ap (λ (ds : List ℕ). ds ++ old) (group_digits n (omega arith) (omega arith)) ∙ append_assoc (digits 16 false (n / 256)) (third ∷ fourth ∷ []) old))
