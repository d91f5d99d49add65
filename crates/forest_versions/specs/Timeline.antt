-- Not of the headline. A value that changes with the versions.
use Rattle.std.specs.Prelude.{◌≡◌, ℕ, ◌<◌, if◌then◌else◌, nat_le, List, [], ◌∷◌, ◌++◌}
use Rattle.std.specs.List.{All, fold}
use Rattle.std.specs.List.Sorted.{IsNonDecreasingBy}

-- a first value, and later ones, each with the version from which on it holds
pub record Line (T : Type 0) : Type 0 where
  pub first : T
  pub steps : List (ℕ × T)

-- the value at a version: that of the last step that isn't later
unfoldable pub as_of : {T : Type 0} → Line T → ℕ → T
as_of line v = fold (λ value step. if nat_le step.0 v then step.1 else value) line.first line.steps

-- a value that hasn't changed yet
abbrev pub unchanged : {T : Type 0} → T → Line T
unchanged value = record { first = value; steps = [] }

-- with another value from a version on
abbrev pub stepped : {T : Type 0} → Line T → ℕ → T → Line T
stepped line from value = record { first = line.first; steps = line.steps ++ (from, value) ∷ [] }

-- the last change is taken back: what it was made from is there again
abbrev pub TakesBack : {P T : Type 0} → (P → ℕ → T → P) → P → P → Type 0
TakesBack {P} {T} changed old new = (before : P) (from : ℕ) (value : T) → old ≡ changed before from value → new ≡ before

-- each step is before a version
abbrev pub IsBefore : {T : Type 0} → Line T → ℕ → Type 0
IsBefore line v = All (λ step. step.0 < v) line.steps

-- the steps stand in the order of their versions
abbrev pub Rises : {T : Type 0} → List (ℕ × T) → Type 0
Rises steps = IsNonDecreasingBy (λ step. step.0) steps
