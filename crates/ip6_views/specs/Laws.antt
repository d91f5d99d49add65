-- Not of the headline. What keys and lanes mean, in the words of the subject.
use Rattle.std.specs.Prelude.{◌≡◌, ℕ}
use Rattle.ip6_views.specs.Sight.{Segment, Tcp, lane_of_sight}

-- a segment and one that goes the other way have one lane
abbrev pub HasOneLane : Type 0
HasOneLane = (there back : Segment) (lanes : ℕ)
    → back.sender ≡ there.receiver → back.receiver ≡ there.sender
    → lane_of_sight (Tcp there) lanes ≡ lane_of_sight (Tcp back) lanes
