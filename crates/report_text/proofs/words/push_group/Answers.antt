use Rattle.std.proofs.Common.{◌∙◌, ◌/◌, ◌%◌, [], ◌∷◌, ◌++◌, false, List, ℕ, ap, sym, arith, append_assoc, string_bytes}
use Rattle.std.specs.Fmt.{digits, digit_glyph}
use Rattle.std.proofs.lemmas.Result.{on_ok_weaker}
use Rattle.report_text.proofs.HexDigits.{group_digits}
use Rattle.report_text.proofs.words.push_group.Goals as goal

pub returns : goal.returns
returns c =
    let old : List ℕ = string_bytes c.args.line.now in
    let n : ℕ = c.args.group in
    let third : List ℕ = digit_glyph false (n / 16 % 16) ∷ [] in
    let fourth : List ℕ = digit_glyph false (n % 16) ∷ [] in
    on_ok_weaker c.push_digit-2.result (λ is.
    is ∙ (ap (λ (text : List ℕ). text ++ fourth) (c.in_ok-push_digit.ensures ∙ ap (λ (text : List ℕ). text ++ third) c.in_ok-push_short.ensures)
    ∙ (append_assoc (old ++ digits 16 false (n / 256)) third fourth ∙ (append_assoc old (digits 16 false (n / 256)) (third ++ fourth)
    ∙ ap (λ (ds : List ℕ). old ++ ds) (sym (group_digits n (omega arith) (omega arith))))))) c.push_digit-2.ensures
