use Rattle.std.proofs.Common.{◌≡◌, drop}
use Rattle.report_text.specs.ReadWords.{after_word}
use Rattle.report_text.proofs.read.words.after_word.Given as goal

abbrev pub invariant-loop-place : goal.invariant-loop-place
invariant-loop-place l = after_word l.text ≡ after_word (drop l.place l.text)
