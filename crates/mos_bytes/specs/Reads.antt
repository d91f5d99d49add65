-- Not of the headline. What a source has at hand, and what `fill` does to the bytes that are left in it, where it tells them.
use Rattle.std.specs.Prelude.{◌≡◌, ℕ, ◌<◌, ◌≤◌, ⊤, List, length, take, drop, Result, MatchResult}
use Rattle.std.specs.Io.{ReadsAtMost, StartsWith}
use Rattle.std.specs.declared.option.Option.{Option}
use Rattle.std.specs.declared.option.Option.TheVariants.{None, Some}
use Rattle.std.specs.Io.KnownBytes.{Consumes, IsAtEnd, ReadConsumes}
use Rattle.mos_bytes.specs.declared.failed.Failed.{Failed}

-- the bytes that are left begin with these, where they are told
abbrev pub BeginsWith : Option (List ℕ) → List ℕ → Type 0
BeginsWith None bytes = ⊤
BeginsWith (Some left) bytes = StartsWith left bytes

-- so many bytes are left at least, where they are told
abbrev pub HasAtLeast : Option (List ℕ) → ℕ → Type 0
HasAtLeast None count = ⊤
HasAtLeast (Some left) count = count ≤ length left

-- the first so many bytes were left out
abbrev pub PassesOver : Option (List ℕ) → Option (List ℕ) → ℕ → Type 0
PassesOver None new count = ⊤
PassesOver (Some old) None count = ⊥
PassesOver (Some old) (Some new) count = (count ≤ length old) × (new ≡ drop count old)

-- a read put no more bytes into buf than it has room for, and these were consumed
pub record ReadGives (old new : Option (List ℕ)) (result : Result ℕ Failed) (buf : List ℕ) : Type 0 where
  pub bound : ReadsAtMost result buf
  pub bytes : ReadConsumes old new result buf

-- n bytes were consumed, those at the front of buf, and fewer than buf has room for only where none is left
pub record Fills (old new : Option (List ℕ)) (n : ℕ) (buf : List ℕ) : Type 0 where
  pub within : n ≤ length buf
  pub consumed : Consumes old new (take n buf)
  pub short : n < length buf → IsAtEnd new

-- some bytes were consumed, fewer than buf has room for: those at the front of buf
pub record FillsPart (old new : Option (List ℕ)) (buf : List ℕ) : Type 0 where
  pub count : ℕ
  pub within : count < length buf
  pub consumed : Consumes old new (take count buf)

-- `fill(buf)` consumed what it answers at `Ok`, and part of it at `Failed`
abbrev pub FillConsumes : Option (List ℕ) → Option (List ℕ) → Result ℕ Failed → List ℕ → Type 0
FillConsumes old new result buf = MatchResult result (λ n. Fills old new n buf) (λ _. FillsPart old new buf)
