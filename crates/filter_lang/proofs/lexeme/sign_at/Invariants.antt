use Rattle.std.proofs.Common.{◌≡◌, drop}
use Rattle.filter_lang.specs.Tokens.{signs, sign_in}
use Rattle.filter_lang.proofs.lexeme.sign_at.Given as goal

abbrev pub invariant-loop-sign : goal.invariant-loop-sign
invariant-loop-sign l = sign_in (drop l.sign-index signs) l.bytes ≡ sign_in signs l.bytes
