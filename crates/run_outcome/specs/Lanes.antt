-- Which packets go together: those of a key all to one place, which `lane` tells, and those without a key to place 0.
use Rattle.std.specs.Prelude.{ℕ}
use Rattle.flow_table.specs.Key.{EndpointPair}
use Rattle.lane_core.specs.Sight.{Sight, Tcp, Other, key_of_segment}

abbrev pub lane_of : (EndpointPair → ℕ) → Sight → ℕ
lane_of lane (Tcp segment) = lane (key_of_segment segment)
lane_of lane (Other class) = 0
