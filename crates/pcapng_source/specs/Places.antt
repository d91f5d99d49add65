-- Only for proofs. A place between blocks.
use Rattle.std.specs.Prelude.{ℕ}

-- how many bytes stand before it, and how many more blocks are allowed
pub record PlaceState : Type 0 where
  pub offset : ℕ
  pub allowed : ℕ
