-- Not of the headline. What is counted over records: callbacks, dropped packets, weight.
use Rattle.std.specs.Prelude.{ℕ, zero, suc, ◌+◌, List, [], ◌∷◌}
use Rattle.flow_table.specs.Key.{EndpointPair}
use Rattle.lane_composition.specs.Members.{Members}
use Rattle.lane_composition.specs.Lanes.{part}

-- a count of each record, added up
unfoldable pub total : (Members → ℕ) → List Members → ℕ
total count [] = 0
total count (m ∷ ms) = count m + total count ms

-- the totals of the parts of the first so many lanes, added up
unfoldable pub total_of_lanes : (EndpointPair → ℕ) → (Members → ℕ) → ℕ → List Members → ℕ
total_of_lanes lane count zero ms = 0
total_of_lanes lane count (suc l) ms = total_of_lanes lane count l ms + total count (part lane l ms)
