-- Not of the headline. Lists of numbers that rise, and lists in which no number stands twice.
use Rattle.std.specs.Prelude.{ℕ, ◌+◌, ◌&&◌, ◌==◌, not, Bool, true, List, [], ◌∷◌, nat_le}
use Rattle.std.specs.List.{list_any}

-- whether numbers stand by rising size, from `low` on
abbrev pub rise_from : ℕ → List ℕ → Bool
rise_from low [] = true
rise_from low (n ∷ ns) = nat_le low n && rise_from (n + 1) ns

-- whether no number stands twice
abbrev pub all_differ : List ℕ → Bool
all_differ [] = true
all_differ (n ∷ ns) = not (list_any (λ m. m == n) ns) && all_differ ns
