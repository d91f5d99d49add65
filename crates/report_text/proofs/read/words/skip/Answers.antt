use Rattle.std.proofs.Common.{◌∙◌, ap}
use Rattle.report_text.specs.ReadWords.{after_word}
use Rattle.report_text.proofs.ReadLoops.{skip-more, skip-none}
use Rattle.report_text.proofs.read.words.skip.Goals as goal

pub loop-turn-init : goal.loop-turn-init
loop-turn-init c = skip-none c.args.text.now

pub loop-turn-preserved : goal.loop-turn-preserved
loop-turn-preserved c = c.after_word-rest.ensures ∙ ap after_word c.loop-turn.invariant ∙ skip-more _ c.args.text.now
