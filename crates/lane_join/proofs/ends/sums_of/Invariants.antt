use Rattle.std.proofs.Common.{◌≡◌, ◌≤◌, ◌+◌, ℕ, drop, List}
use Rattle.std.specs.Prelude.{min, ◌-◌, ◌^◌}
use Rattle.lane_core.specs.declared.end.KeptEnd.{KeptEnd}
use Rattle.lane_composition.specs.Ends.{sum_of}
use Rattle.lane_join.proofs.ends.sums_of.Given as goal

-- a sum so far, with what is counted at the ends that are left
pub record IsSum (count : KeptEnd → ℕ) (ends left : List KeptEnd) (sum : ℕ) : Type 0 where
  pub fits : sum ≤ 2 ^ 64 - 1
  pub rest : min (sum + sum_of count left) (2 ^ 64 - 1) ≡ min (sum_of count ends) (2 ^ 64 - 1)

abbrev pub invariant-loop-end : goal.invariant-loop-end
invariant-loop-end l = record {
  callbacks : IsSum (λ end. end.callbacks) l.ends (drop l.end-index l.ends) l.sums.callbacks;
  weight : IsSum (λ end. end.weight) l.ends (drop l.end-index l.ends) l.sums.weight;
  drops : IsSum (λ end. end.drops) l.ends (drop l.end-index l.ends) l.sums.drops;
}
