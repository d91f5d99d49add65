use Rattle.std.proofs.Common.{◌≡◌, drop}
use Rattle.report_text.specs.ReadWords.{number_from}
use Rattle.report_text.proofs.read.words.number.Given as goal

abbrev pub invariant-loop-byte : goal.invariant-loop-byte
invariant-loop-byte l = number_from l.radix 0 l.text ≡ number_from l.radix l.number (drop l.byte-index l.text)
