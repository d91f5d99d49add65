-- The lane of two endpoints, whichever is the lower one.
use Rattle.std.proofs.Common.{◌≡◌, ◌+◌, ◌%◌, ◌^◌, ℕ, Bool, true, false, cond, refl, ap, arith}
use Rattle.std.specs.Ordering.{is_le}
use Rattle.flow_table.specs.declared.endpoint.Endpoint.{Endpoint}
use Rattle.flow_table.specs.Endpoint.{endpoint_cmp}
use Rattle.flow_table.specs.Key.{key_between}
use Rattle.flow_table.specs.Lane.{mix_of, lane_of_key}

commutes : (m n : ℕ) → m + n ≡ n + m
commutes m n = omega arith

pub lane_of_ends : (a b : Endpoint) (lanes : ℕ) → lane_of_key (key_between a b) lanes ≡ (mix_of a + mix_of b) % 2 ^ 64 % lanes
unfolding key_between lane_of_key
lane_of_ends a b lanes = by (is_le (endpoint_cmp a b))
  where
    by : (le : Bool) → lane_of_key (cond le (a, b) (b, a)) lanes ≡ (mix_of a + mix_of b) % 2 ^ 64 % lanes
    by true = refl
    by false = ap (λ (sum : ℕ). sum % 2 ^ 64 % lanes) (commutes (mix_of b) (mix_of a))
