use Rattle.std.proofs.Common.{◌∙◌, ◌/◌, ◌%◌, [], ◌∷◌, ◌++◌, false, List, ℕ, ap, sym, arith, append_assoc, string_bytes}
use Rattle.std.specs.Fmt.{digit_glyph}
use Rattle.std.proofs.lemmas.Fmt.{hex_two_digits}
use Rattle.std.proofs.lemmas.Result.{on_ok_weaker}
use Rattle.report_text.proofs.words.push_short.Goals as goal

pub returns : goal.returns
returns c =
    let old : List ℕ = string_bytes c.args.line.now in
    let n : ℕ = c.args.n in
    on_ok_weaker c.push_digit-3.result (λ is.
    is ∙ (ap (λ (text : List ℕ). text ++ digit_glyph false (n % 16) ∷ []) c.in_ok-push_digit.ensures
    ∙ (append_assoc old (digit_glyph false (n / 16) ∷ []) (digit_glyph false (n % 16) ∷ [])
    ∙ ap (λ (ds : List ℕ). old ++ ds) (sym (hex_two_digits false n (omega arith) (omega (arith, c.requires))))))) c.push_digit-3.ensures
