-- Only for proofs. What a connection of the generated capture may send.
use Rattle.std.specs.Prelude.{ℕ, ◌<◌, ◌≤◌}
use Rattle.capture_maker.specs.declared.step.Segment.{Segment}

-- a segment of one of the connections, with at most 100 bytes, of which the first is one of the first 101
pub record IsSent (number : ℕ) (segment : Segment) : Type 0 where
  pub connection : number < 100000
  pub first : segment.first ≤ 100
  pub count : segment.count ≤ 100
