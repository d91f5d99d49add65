-- Not of the headline. The answers of a forward run that writes while it reads, where `frame_of` tells the frame of each packet by its number.
use Rattle.std.specs.Prelude.{◌≡◌, ◌<◌, ℕ, ◌++◌, List, length, map, get_or}
use Rattle.pcap_source.specs.Captured.{Captured}
use Rattle.app_api.specs.declared.reaction.Verdict.{Verdict}
use Rattle.lane_rings.specs.declared.items.Answer.{Answer}
use Rattle.flow_table.specs.Key.{EndpointPair}
use Rattle.lane_core.specs.Sight.{Arrival}
use Rattle.run_outcome.specs.Lanes.{lane_of}

abbrev pub answer_to : (ℕ → Captured) → ℕ → Verdict → Answer
answer_to frame_of number verdict = record { index = number; verdict = verdict; frame = frame_of number }

-- the answers to judged packets, in order
abbrev pub answers_to : (ℕ → Captured) → List (Arrival × Verdict) → List Answer
answers_to frame_of js = map (λ j. answer_to frame_of j.0.number j.1) js

-- the answer to the packet in a place, and its lane; `d` stands for places past the end
abbrev pub answer_at : (ℕ → Captured) → List (Arrival × Verdict) → Arrival × Verdict → ℕ → Answer
answer_at frame_of js d i = answer_to frame_of i (get_or js i d).1

abbrev pub lane_in : (EndpointPair → ℕ) → List (Arrival × Verdict) → Arrival × Verdict → ℕ → ℕ
lane_in lane js d i = lane_of lane (get_or js i d).0.sight

-- packets are numbered by their places
abbrev pub AreNumbered : List (Arrival × Verdict) → Type 0
AreNumbered js = (i : ℕ) (d : Arrival × Verdict) → i < length js → (get_or js i d).0.number ≡ i

abbrev pub frame_bytes : (ℕ → Captured) → Arrival → List ℕ
frame_bytes frame_of a = (frame_of a.number).head ++ (frame_of a.number).bytes
