-- How faults of one call after another add up.
use Rattle.std.proofs.Common.{ℕ, ◌≤◌, inl, inr, arith}
use Rattle.mos_bytes.specs.Causes.{HasCauseOf, Rose}

-- a count that rose later rose since before
pub Rose-earlier : (before middle now : ℕ) → before ≤ middle → Rose middle now → Rose before now
Rose-earlier before middle now le (inl less) = inl (omega arith)
Rose-earlier before middle now le (inr end) = inr end

-- a count that rose earlier rose until now
pub Rose-later : (before middle now : ℕ) → Rose before middle → middle ≤ now → Rose before now
Rose-later before middle now (inl less) le = inl (omega arith)
Rose-later before middle now (inr end) le = inr (omega arith)

-- a fault that is told at the end of a later call
pub HasCauseOf-earlier : (before middle now : ℕ) (fault : Type 0) → before ≤ middle → HasCauseOf middle now fault → HasCauseOf before now fault
HasCauseOf-earlier before middle now fault le call =
    let later = call.later in record { later = omega arith; cause = λ told. Rose-earlier before middle now le (call.cause told) }
