-- Not of the headline. Which packets go to which lane: those of a key all to one, which `lane` tells, and those without a key to lane 0.
use Rattle.std.specs.Prelude.{ℕ, ◌==◌, List, filter}
use Rattle.flow_table.specs.Key.{EndpointPair}
use Rattle.lane_core.specs.Sight.{Arrival}
use Rattle.run_outcome.specs.Lanes.{lane_of}
use Rattle.lane_composition.specs.Members.{Members}

module _ (lane : EndpointPair → ℕ) where
  -- a lane's share of the packets, in their order
  abbrev pub share : ℕ → List Arrival → List Arrival
  share l ps = filter (λ a. lane_of lane a.sight == l) ps

  -- a lane's part of records: those whose first packet is of its share
  abbrev pub part : ℕ → List Members → List Members
  part l ms = filter (λ m. lane_of lane m.first.sight == l) ms
