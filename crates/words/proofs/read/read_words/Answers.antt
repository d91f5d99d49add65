use Rattle.std.proofs.Common.{◌∙◌, map, string_bytes, sym}
use Rattle.words.proofs.Dashes.{dashed}
use Rattle.words.proofs.read.read_words.Goals as goal

pub returns-then-has_dashes-clause-usage : goal.returns-then-has_dashes-clause-usage
returns-then-has_dashes-clause-usage c = λ _. dashed (map string_bytes c.args.words.now) (sym c.has_dashes.ensures ∙ c.if-has_dashes.true)
