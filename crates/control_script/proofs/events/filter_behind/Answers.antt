use Rattle.std.proofs.lemmas.Str.{IsUtf8-from_ascii}
use Rattle.control_script.proofs.Texts.{ascii}
use Rattle.control_script.proofs.events.filter_behind.Goals as goal

pub returns-in-Err-clause-err : goal.returns-in-Err-clause-err
returns-in-Err-clause-err c memory make =
    absurd (c.in-Err.ensures.cases.0 (IsUtf8-from_ascii c.args.words.now.rest.now (ascii c.args.words.now.rest.now c.args.words.now.text)))
