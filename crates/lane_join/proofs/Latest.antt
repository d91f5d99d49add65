-- The greatest moment of packets, with one packet more.
use Rattle.std.proofs.Common.{◌≡◌, ◌+◌, ℕ, Option, Some, List, [], ◌∷◌, ◌++◌, refl}
use Rattle.pcap_source.specs.Captured.{Captured}
use Rattle.lane_core.specs.Sight.{Moment, arrivals}
use Rattle.run_outcome.specs.Greatest.{later_of, greatest_from}

abbrev pub moment_of : Captured → Moment
moment_of frame = record { seconds = frame.seconds; fraction = frame.fraction }

pub greatest_push : (so_far : Option Moment) (n : ℕ) (frames : List Captured) (frame : Captured)
    → greatest_from so_far (arrivals n (frames ++ frame ∷ [])) ≡ Some (later_of (greatest_from so_far (arrivals n frames)) (moment_of frame))
unfolding greatest_from
greatest_push so_far n [] frame = refl
greatest_push so_far n (f ∷ frames) frame = greatest_push (Some (later_of so_far (moment_of f))) (n + 1) frames frame
