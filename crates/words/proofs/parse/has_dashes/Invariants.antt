use Rattle.std.proofs.Common.{◌≡◌, drop, map, string_bytes}
use Rattle.words.specs.Found.{has_dashes}
use Rattle.words.proofs.parse.has_dashes.Given as goal

abbrev pub invariant-loop-word : goal.invariant-loop-word
invariant-loop-word l = has_dashes (map string_bytes (drop l.word-index l.words)) ≡ has_dashes (map string_bytes l.words)
