use Rattle.std.proofs.Common.{subst, sym, take}
use Rattle.std.specs.Str.Parse.{IsNumeral}
use Rattle.filter_lang.proofs.Numerals.{decimal_numeral}
use Rattle.filter_lang.proofs.lexeme.decimal_at.Goals as goal

pub numeral_token-requires-clause-numeral : goal.numeral_token-requires-clause-numeral
numeral_token-requires-clause-numeral c =
    subst (λ n. IsNumeral 10 (take n c.args.bytes.now)) (sym c.digits-len.ensures) (decimal_numeral c.args.bytes.now c.requires)
