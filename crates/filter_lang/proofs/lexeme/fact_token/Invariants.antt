use Rattle.std.proofs.Common.{◌≡◌, drop}
use Rattle.std.specs.List.{position_from}
use Rattle.std.specs.Str.{bytes_eq}
use Rattle.filter_lang.specs.Tokens.{fact_names}
use Rattle.filter_lang.proofs.lexeme.fact_token.Given as goal

abbrev pub invariant-loop-place : goal.invariant-loop-place
invariant-loop-place l = position_from (bytes_eq l.name) l.place (drop l.place fact_names) ≡ position_from (bytes_eq l.name) 0 fact_names
