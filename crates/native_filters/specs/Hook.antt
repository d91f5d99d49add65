-- The sides at which events are raised.
use Rattle.std.specs.Prelude.{Bool, true, false}
use Rattle.native_filters.specs.declared.facts.Hook.{Hook}
use Rattle.native_filters.specs.declared.facts.Hook.TheVariants.{Snd, Rcv}

-- whether two sides are one
abbrev pub is_hook : Hook → Hook → Bool
is_hook Snd Snd = true
is_hook Rcv Rcv = true
is_hook _ _ = false
