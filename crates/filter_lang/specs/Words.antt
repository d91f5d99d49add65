-- Only for proofs. What the code keeps of the token that it has read.
use Rattle.std.specs.Prelude.{Bool, true, false, nat_lt}
use Rattle.filter_lang.specs.declared.token.Token.{Token}
use Rattle.filter_lang.specs.declared.token.Token.TheVariants.{FactName, End}

abbrev pub is_end : Token → Bool
is_end End = true
is_end _ = false

-- a fact's place is at most 19
abbrev pub has_fact_within : Token → Bool
has_fact_within (FactName place) = nat_lt place 20
has_fact_within _ = true
