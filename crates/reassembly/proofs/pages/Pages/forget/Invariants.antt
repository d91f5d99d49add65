use Rattle.std.proofs.Common.{◌≡◌, ℕ, ◌-◌, ◌/◌, ◌≤◌, vec_len}
use Rattle.reassembly.specs.declared.pages.Pages.{Pages}
use Rattle.reassembly.specs.Pages.{byte_of, IsHeld, IsKeyed}
use Rattle.reassembly.proofs.pages.Pages.forget.Given as goal

-- the pages below the base were given back
pub record IsForgottenTo (before now : Pages) (low : ℕ) : Type 0 where
  pub keyed : IsKeyed now
  pub rises : before.base ≤ now.base
  pub below : now.base ≤ low
  pub within : (low - now.base) / 2048 ≤ vec_len now.keys
  pub bytes : (p : ℕ) → now.base ≤ p → byte_of now p ≡ byte_of before p
  pub held : (p : ℕ) → now.base ≤ p → IsHeld before p → IsHeld now p

abbrev pub invariant-loop-self : goal.invariant-loop-self
invariant-loop-self l = IsForgottenTo l.fn.self l.self l.low

abbrev pub decreases-loop-self : goal.decreases-loop-self
decreases-loop-self l = l.low - l.self.base
