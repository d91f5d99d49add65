-- The cause of a fault: the count of the object that was handed in rose.
use Rattle.std.specs.Prelude.{ℕ, ◌+◌, ◌-◌, ◌^◌, ◌<◌, ◌≤◌, ◌⊎◌, min, Result, IsErr}
use Rattle.mos_bytes.specs.declared.failed.Failed.{Failed}

-- a count one higher, which stays at the end of its type
abbrev pub risen : ℕ → ℕ
risen count = min (count + 1) (2 ^ 64 - 1)

-- A count rose from one moment to another. It also counts as risen where it stands at 2^64 - 1 or more.
abbrev pub Rose : ℕ → ℕ → Type 0
Rose before now = (before < now) ⊎ (2 ^ 64 - 1 ≤ now)

-- `Failed` is told only where the count rose, and the count never falls
pub record HasCause {T : Type 0} (before now : ℕ) (result : Result T Failed) : Type 0 where
  pub later : before ≤ now
  pub failed : IsErr result → Rose before now

-- a fault is told only where the count rose, and the count never falls; `fault` says that it is told
pub record HasCauseOf (before now : ℕ) (fault : Type 0) : Type 0 where
  pub later : before ≤ now
  pub cause : fault → Rose before now
