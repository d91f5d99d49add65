use Rattle.std.proofs.Common.{◌∙◌, sym}
use Rattle.control_script.specs.Words.{words}
use Rattle.control_script.proofs.Texts.{behind-some}
use Rattle.control_script.proofs.words.Words.advance.Goals as goal

pub returns-clause-ahead : goal.returns-clause-ahead
returns-clause-ahead c =
    behind-some c.args.self.now.word.now (words c.args.self.now.rest.now) c.requires ∙ sym c.at.ensures.ahead
