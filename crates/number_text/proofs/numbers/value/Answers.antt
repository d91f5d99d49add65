use Rattle.std.proofs.Common.{subst}
use Rattle.std.specs.Str.Parse.{ParsesUnsigned}
use Rattle.std.proofs.lemmas.Str.{IsUtf8-from_ascii}
use Rattle.number_text.proofs.Digits.{ascii, parsed}
use Rattle.number_text.proofs.numbers.value.Goals as goal

pub returns-in-Err : goal.returns-in-Err
returns-in-Err c =
    absurd (c.in-Err.ensures.cases.0 (IsUtf8-from_ascii c.args.digits.now (ascii c.args.digits.now c.requires.digits)))

pub returns-in-Ok : goal.returns-in-Ok
returns-in-Ok c =
    let told = subst (λ bs. ParsesUnsigned 64 10 bs c.parse.result) c.in-Ok.ensures.cases.0 c.parse.ensures.value.0 in
    rw c.ok.ensures.value (parsed c.args.digits.now c.parse.result c.requires.digits told)
