use Rattle.std.proofs.Common.{subst, arith}
use Rattle.std.specs.Str.Parse.{ParsesUnsigned}
use Rattle.std.proofs.lemmas.Str.{IsUtf8-from_ascii}
use Rattle.filter_lang.proofs.Numerals.{ascii, parsed}
use Rattle.filter_lang.proofs.lexeme.value.Goals as goal

pub returns-in-Err : goal.returns-in-Err
returns-in-Err c =
    let small = ascii c.args.radix c.args.digits.now (omega arith) c.requires.numeral.1 in
    absurd (c.in-Err.ensures.cases.0 (IsUtf8-from_ascii c.args.digits.now small))

pub returns-in-Ok : goal.returns-in-Ok
returns-in-Ok c =
    let told = subst (λ bs. ParsesUnsigned 64 c.args.radix bs c.from_str_radix.result) c.in-Ok.ensures.cases.0 c.from_str_radix.ensures.value in
    rw c.ok.ensures.value (parsed c.args.radix c.args.digits.now c.from_str_radix.result (omega arith) c.requires.numeral told)
