-- Not of the headline. Which packets go to a lane, where `lane` tells the lane of each packet by its number.
use Rattle.std.specs.Prelude.{ℕ, zero, suc, ◌==◌, List, [], ◌∷◌, ◌++◌, if◌then◌else◌}

-- the packets of a lane among the first n, in order
unfoldable pub share : (ℕ → ℕ) → ℕ → ℕ → List ℕ
share lane l zero = []
share lane l (suc n) = if lane n == l then share lane l n ++ n ∷ [] else share lane l n
