use Rattle.std.proofs.Common.{◌∷◌, sym, ap, arith}
use Rattle.std.proofs.lemmas.Fmt.{decimal_digit}
use Rattle.report_text.proofs.short.ShortLine.new.Goals as goal

pub invariant_of-result-clause-begins : goal.invariant_of-result-clause-begins
invariant_of-result-clause-begins c = ap (λ digits. 99 ∷ 98 ∷ 32 ∷ digits) (sym (decimal_digit 0 (omega arith)))
