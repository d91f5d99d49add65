use Rattle.std.proofs.Common.{◌≡◌, ◌++◌, take, drop}
use Rattle.report_text.specs.ReadWords.{first_word}
use Rattle.report_text.proofs.read.words.first_word.Given as goal

abbrev pub invariant-loop-place : goal.invariant-loop-place
invariant-loop-place l = first_word l.text ≡ take l.place l.text ++ first_word (drop l.place l.text)
