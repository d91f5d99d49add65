use Rattle.std.proofs.Common.{◌≡◌}
use Rattle.report_text.specs.ReadWords.{skip}
use Rattle.report_text.proofs.read.words.skip.Given as goal

abbrev pub invariant-loop-turn : goal.invariant-loop-turn
invariant-loop-turn l = l.rest ≡ skip l._turn l.fn.text
