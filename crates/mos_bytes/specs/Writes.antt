-- What `write_all` does to the bytes that a sink has taken, where it tells them.
use Rattle.std.specs.Prelude.{◌≡◌, ℕ, ◌+◌, ◌-◌, ◌^◌, min, List, ◌++◌, ⊤, Result, MatchResult}
use Rattle.std.specs.declared.option.Option.{Option}
use Rattle.std.specs.declared.option.Option.TheVariants.{None, Some}
use Rattle.std.specs.Io.KnownBytes.{Appends}

-- the taken bytes grew by a front of bytes
pub record AppendsFront (old new : Option (List ℕ)) (bytes : List ℕ) : Type 0 where
  pub front : List ℕ
  pub rest : List ℕ
  pub added : Appends old new front
  pub whole : bytes ≡ front ++ rest

-- the taken bytes grew by all of bytes at `Ok`, and by a front of them at an error
abbrev pub WriteAdds : {T E : Type 0} → Option (List ℕ) → Option (List ℕ) → Result T E → List ℕ → Type 0
WriteAdds old new result bytes = MatchResult result (λ _. Appends old new bytes) (λ _. AppendsFront old new bytes)

-- so many pieces were given to a sink, where it counts them; a count stays at the end of its type
abbrev pub GivesPieces : ℕ → Option ℕ → Option ℕ → Type 0
GivesPieces n None new = ⊤
GivesPieces n (Some before) None = ⊥
GivesPieces n (Some before) (Some now) = now ≡ min (before + n) (2 ^ 64 - 1)
