use Rattle.std.proofs.Common.{◌-◌, ◌≡◌, ℕ, ◌+◌, ◌<◌, ◌≤◌, length, slice_index, List}
use Rattle.reassembly.specs.declared.answers.Policy.{Policy}
use Rattle.reassembly.specs.declared.runs.Run.{Run}
use Rattle.reassembly.specs.declared.laying.Judged.{Judged}
use Rattle.reassembly.specs.Runs.{IsCursor}
use Rattle.reassembly.specs.Laying.{laid_byte, tally_of}
use Rattle.reassembly.proofs.laying.lay.Given as goal

-- the segment is laid and judged up to the position `at`
pub record IsLaidTo (runs : List Run) (start : ℕ) (policy : Policy) (before segment cells : List ℕ) (tally : Judged) (cursor stop at : ℕ) : Type 0 where
  pub end : stop ≡ start + length segment
  pub from : start ≤ at
  pub within : at ≤ stop
  pub next : IsCursor runs cursor at
  pub done : (i : ℕ) → i < at - start → slice_index cells i ≡ laid_byte runs start policy before segment i
  pub rest : (i : ℕ) → at - start ≤ i → slice_index cells i ≡ slice_index before i
  pub judged : tally ≡ tally_of runs start before segment (at - start)

abbrev pub invariant-loop-at : goal.invariant-loop-at
invariant-loop-at l = IsLaidTo l.runs l.start l.policy l.initial.cells l.segment l.cells l.tally l.cursor l.stop l.at

abbrev pub decreases-loop-at : goal.decreases-loop-at
decreases-loop-at l = l.stop - l.at
