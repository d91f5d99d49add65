use Rattle.std.proofs.Common.{ℕ, ◌+◌, ◌-◌, ◌*◌, ◌≤◌, vec_len}
use Rattle.reassembly.specs.declared.pages.Pages.{Pages}
use Rattle.reassembly.specs.Pages.{IsGrown, IsReady}
use Rattle.reassembly.proofs.pages.Pages.reserve.Given as goal

-- the positions from low to below `at` are held
pub record IsReadyTo (before now : Pages) (low high at : ℕ) : Type 0 where
  pub grown : IsGrown before now
  pub from : low ≤ at
  pub within : at ≤ high
  pub reach : high ≤ now.base + 2048 * vec_len now.keys
  pub ready : IsReady now low at

abbrev pub invariant-loop-at : goal.invariant-loop-at
invariant-loop-at l = IsReadyTo l.fn.self l.self l.low l.high l.at

abbrev pub decreases-loop-at : goal.decreases-loop-at
decreases-loop-at l = l.high - l.at
