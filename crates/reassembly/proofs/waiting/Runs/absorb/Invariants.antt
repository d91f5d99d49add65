use Rattle.std.proofs.Common.{◌≡◌, ℕ, ◌≤◌, ◌||◌, List, nat_lt, length}
use Rattle.reassembly.specs.declared.runs.Run.{Run}
use Rattle.reassembly.specs.Runs.{AreOrdered, AreWithin, is_covered}
use Rattle.reassembly.specs.Waiting.{runs_of}
use Rattle.reassembly.proofs.waiting.Runs.absorb.Given as goal

-- some first runs were taken away, and `end` has risen over them
pub record IsAbsorbedTo (before now : List Run) (high end : ℕ) : Type 0 where
  pub rises : high ≤ end
  pub ordered : AreOrdered now
  pub accepted : (p : ℕ) → (nat_lt p end || is_covered now p) ≡ (nat_lt p high || is_covered before p)
  pub within : (m : ℕ) → high ≤ m → AreWithin before m → (end ≤ m) × AreWithin now m

abbrev pub invariant-loop-run_end : goal.invariant-loop-run_end
invariant-loop-run_end l = IsAbsorbedTo (runs_of l.fn.self) (runs_of l.self) l.high l.end

abbrev pub decreases-loop-run_end : goal.decreases-loop-run_end
decreases-loop-run_end l = length (runs_of l.self)
