-- Registrations with their paths, in the order of their paths.
use Rattle.std.specs.Prelude.{List, [], ◌∷◌, ℕ, ⊤}
use Rattle.event_trees.specs.Canon.{Placed}
pub use Rattle.event_trees.specs.Insert.{IsUpTo}

-- no path is before the one before it
abbrev pub Rises : List ℕ → List Placed → Type 0
Rises q [] = ⊤
Rises q (r ∷ rest) = IsUpTo q r.path × Rises r.path rest
