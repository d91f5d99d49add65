-- Numbers that rise, and numbers that don't fall.
use Rattle.std.specs.Prelude.{◌<◌, ◌≤◌, ℕ, List, [], ◌∷◌}
use Rattle.std.specs.List.{All}

-- each is less than all behind it
unfoldable pub Rises : List ℕ → Type 0
Rises [] = Unit {0}
Rises (n ∷ ns) = All (λ k. n < k) ns × Rises ns

-- none is more than one behind it
unfoldable pub NeverFalls : List ℕ → Type 0
NeverFalls [] = Unit {0}
NeverFalls (n ∷ ns) = All (λ k. n ≤ k) ns × NeverFalls ns
