-- The greatest moment of packets. Their moments needn't rise.
use Rattle.std.specs.Prelude.{if◌then◌else◌, Option, Some, None, List, [], ◌∷◌}
use Rattle.flow_timers.specs.Moments.{is_idle}
use Rattle.lane_core.specs.Sight.{Moment, Arrival}

-- the greater of the greatest moment so far, if there is any, and one more
abbrev pub later_of : Option Moment → Moment → Moment
later_of None moment = moment
later_of (Some greatest) moment = if is_idle moment greatest 0 then greatest else moment

unfoldable pub greatest_from : Option Moment → List Arrival → Option Moment
greatest_from so_far [] = so_far
greatest_from so_far (a ∷ rest) = greatest_from (Some (later_of so_far a.moment)) rest

-- none where there is no packet
abbrev pub greatest : List Arrival → Option Moment
greatest packets = greatest_from None packets
