-- Not of the headline. What the dispatcher makes of a capture: of each frame a packet, numbered in the order of the capture, for the lane of its key.
use Rattle.std.specs.Prelude.{ℕ, ◌+◌, ◌==◌, List, [], ◌∷◌, filter}
use Rattle.pcap_source.specs.Captured.{Captured}
use Rattle.ip6_views.specs.Sight.{sight_of, lane_of_sight}
use Rattle.control_script.specs.declared.stamped.Stamped.{Stamped}
use Rattle.control_script.specs.Versions.{floor, ceil}
use Rattle.lane_rings.specs.declared.items.Packet.{Packet}

-- a frame as the packet of a number, with its floor and its ceiling
abbrev pub sent_as : List Stamped → ℕ → Captured → Packet
sent_as script n frame = record { index = n; floor = floor script n; ceil = ceil script n; frame = frame }

-- frames as packets, numbered from n on
unfoldable pub packets_from : List Stamped → ℕ → List Captured → List Packet
packets_from script n [] = []
packets_from script n (frame ∷ frames) = sent_as script n frame ∷ packets_from script (n + 1) frames

-- the lane of a packet, among so many
abbrev pub lane_of : ℕ → Packet → ℕ
lane_of lanes p = lane_of_sight (sight_of p.frame.bytes) lanes

-- the packets of a lane, in order
abbrev pub dealt : ℕ → ℕ → List Packet → List Packet
dealt lanes l packets = filter (λ p. lane_of lanes p == l) packets
