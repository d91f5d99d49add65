use Rattle.std.proofs.Common.{◌≡◌, ℕ, ◌-◌, ◌≤◌, List, length}
use Rattle.reassembly.specs.declared.answers.Policy.{Policy}
use Rattle.reassembly.specs.declared.laying.Judged.{Judged}
use Rattle.reassembly.specs.declared.pages.Pages.{Pages}
use Rattle.reassembly.specs.declared.runs.Run.{Run}
use Rattle.reassembly.specs.Pages.{IsSamePlace, byte_of, laid_in, tally_in}
use Rattle.reassembly.proofs.pages.Pages.lay.Given as goal

-- the first n bytes are laid and judged
pub record IsLaidTo (before now : Pages) (runs : List Run) (low : ℕ) (policy : Policy) (bytes : List ℕ) (tally : Judged) (n : ℕ) : Type 0 where
  pub place : IsSamePlace before now
  pub within : n ≤ length bytes
  pub laid : (p : ℕ) → before.base ≤ p → byte_of now p ≡ laid_in before runs low policy bytes n p
  pub judged : tally ≡ tally_in before runs low bytes n

abbrev pub invariant-loop-done : goal.invariant-loop-done
invariant-loop-done l = IsLaidTo l.fn.self l.self l.runs l.low l.fn.policy l.bytes l.tally l.done

abbrev pub decreases-loop-done : goal.decreases-loop-done
decreases-loop-done l = length l.bytes - l.done
