-- A packet of the capture as a lane takes it: its number, its time, and what is seen of its frame, over IPv4 or IPv6.
use Rattle.std.specs.Prelude.{ℕ, ◌+◌, List, [], ◌∷◌}
use Rattle.pcap_source.specs.Captured.{Captured}
pub use Rattle.flow_timers.specs.declared.moment.Moment.{Moment}
pub use Rattle.ip6_views.specs.Sight.{Segment, Sight, Tcp, Other, sight_of, key_of_segment}

-- a packet of the capture, with its number from 0, and its time as it stands in its record
pub record Arrival : Type 0 where
  pub number : ℕ
  pub moment : Moment
  pub sight : Sight

-- the captured bytes of a packet, as the packet of a number and a time
abbrev pub arrival_at : ℕ → Moment → List ℕ → Arrival
arrival_at number moment bytes = record { number = number; moment = moment; sight = sight_of bytes }

-- a record of the capture as the packet of a number
abbrev pub arrival_of : ℕ → Captured → Arrival
arrival_of number captured = arrival_at number (record { seconds = captured.seconds; fraction = captured.fraction }) captured.bytes

-- the packets of captured records, numbered from n on
abbrev pub arrivals : ℕ → List Captured → List Arrival
arrivals n [] = []
arrivals n (captured ∷ rest) = arrival_of n captured ∷ arrivals (n + 1) rest
