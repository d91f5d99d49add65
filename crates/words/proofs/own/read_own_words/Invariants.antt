use Rattle.std.proofs.Common.{◌≡◌, ◌∷◌, map, take}
use Rattle.std.specs.Prelude.{codes, string_bytes}
use Rattle.words.proofs.own.read_own_words.Given as goal

abbrev pub invariant-loop-word : goal.invariant-loop-word
invariant-loop-word l = map string_bytes l.all.items ≡ codes "--app=log" ∷ map string_bytes (take l.word-index l.words)
