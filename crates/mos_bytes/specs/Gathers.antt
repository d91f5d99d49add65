-- Not of the headline. What a sink that gathers keeps of the sink below it.
use Rattle.std.specs.Prelude.{ℕ, ◌-◌, ◌^◌, ◌<◌, min, List, ⊤}
use Rattle.std.specs.Io.{StartsWith}
use Rattle.std.specs.declared.option.Option.{Option}
use Rattle.std.specs.declared.option.Option.TheVariants.{None, Some}
use Rattle.std.specs.Coded.{Coded-set, coded_list, coded_ℕ, ×_prop, Unit-prop}

-- what is taken is a front of what was given, and begins with what was taken before, where that was told
abbrev pub IsBetween : Option (List ℕ) → Option (List ℕ) → Option (List ℕ) → Type 0
IsBetween None taken given = ⊤
IsBetween (Some before) None given = ⊥
IsBetween (Some before) (Some taken) None = ⊥
IsBetween (Some before) (Some taken) (Some given) = StartsWith taken before × StartsWith given taken

pub IsBetween-prop : (before taken given : Option (List ℕ)) → IsProp (IsBetween before taken given)
IsBetween-prop None taken given = Unit-prop
IsBetween-prop (Some before) None given = λ x y. absurd x
IsBetween-prop (Some before) (Some taken) None = λ x y. absurd x
IsBetween-prop (Some before) (Some taken) (Some given) = ×_prop (Coded-set (coded_list coded_ℕ) _ _) (Coded-set (coded_list coded_ℕ) _ _)

-- a count rose: as `Rose`, by one comparison
abbrev pub HasRisen : ℕ → ℕ → Type 0
HasRisen before now = min before (2 ^ 64 - 2) < now
