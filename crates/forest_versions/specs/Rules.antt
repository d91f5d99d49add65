-- The rules for applications, by rising number.
use Rattle.std.specs.Prelude.{ℕ, ◌==◌, not, if◌then◌else◌, nat_lt, Option, List, [], ◌∷◌}
use Rattle.std.specs.List.{filter, find}
use Rattle.app_api.specs.declared.rule.Rule.{Rule}

-- the rule of a number
abbrev pub rule_of : List Rule → ℕ → Option Rule
rule_of rules number = find (λ r. r.number == number) rules

-- one rule more, at its place
abbrev pub put_rule : Rule → List Rule → List Rule
put_rule r [] = r ∷ []
put_rule r (s ∷ rules) = if nat_lt r.number s.number then r ∷ s ∷ rules else s ∷ put_rule r rules

abbrev pub without_rule : ℕ → List Rule → List Rule
without_rule number rules = filter (λ r. not (r.number == number)) rules
