-- The packets of a capture: their numbers, and their lanes.
use Rattle.std.proofs.Common.{◌≡◌, ◌<◌, ◌≤◌, ◌+◌, ℕ, true, List, [], ◌∷◌, refl, ap, ◌∙◌, map, arith}
use Rattle.std.specs.List.{All}
use Rattle.std.proofs.lemmas.Grind.{common_steps}
use Rattle.std.proofs.lemmas.List.Elements.{All-nil, All-cons}
use Rattle.pcap_source.specs.Captured.{Captured}
use Rattle.flow_table.specs.Key.{EndpointPair}
use Rattle.flow_table.specs.Lane.{lane_of_key}
use Rattle.ip6_views.specs.Sight.{lane_of_sight}
use Rattle.app_api.specs.App.{Meaning}
use Rattle.app_api.specs.Numbers.{rise_from}
use Rattle.forest_versions.specs.declared.command.Command.{Command}
use Rattle.lane_core.specs.Sight.{Sight, Tcp, Other, arrivals}
use Rattle.lane_core.specs.Laws.{rise}
use Rattle.run_outcome.specs.Lanes.{lane_of}
use Rattle.run_outcome.specs.Rising.{Rises}
use Rattle.lane_composition.specs.Allowed.{arrivals_of}
use Rattle.lane_composition.specs.Histories.{over_under}
use Rattle.run_outcome.specs.Whole.{packets_under}
use Rattle.lane_composition.proofs.Bridging.{packets_are}
use Rattle.lane_composition.proofs.Reported.{named_packets, named_numbers}

-- ---- numbers

numbers_above : (n m : ℕ) (frames : List Captured) → n < m → All (λ k. n < k) (map (λ a. a.number) (arrivals m frames))
numbers_above n m [] lt = All-nil (λ k. n < k)
numbers_above n m (frame ∷ frames) lt = All-cons (λ k. n < k) m (map (λ a. a.number) (arrivals (m + 1) frames)) lt (numbers_above n (m + 1) frames (omega arith))

pub numbers_rise : (n : ℕ) (frames : List Captured) → Rises (map (λ a. a.number) (arrivals n frames))
unfolding Rises
numbers_rise n [] = tt
numbers_rise n (frame ∷ frames) = (numbers_above n (n + 1) frames (omega arith), numbers_rise (n + 1) frames)

they_rise : (n : ℕ) (frames : List Captured) → rise_from n (map (λ a. a.number) (arrivals n frames)) ≡ true
they_rise n [] = refl
they_rise n (frame ∷ frames) = grind (arith, common_steps, they_rise (n + 1) frames)

pub run_rises : (app : Meaning) (commands : List Command) (frames : List Captured) (vs : List ℕ) → rise 0 (packets_under app commands vs (arrivals 0 frames)) ≡ true
run_rises app commands frames vs =
    ap (rise_from 0) (named_numbers (packets_under app commands vs (arrivals 0 frames)) ∙ ap (λ ps. map (λ a. a.number) (arrivals_of ps)) (packets_are app commands vs (arrivals 0 frames)) ∙ ap (map (λ a. a.number)) (named_packets (over_under app commands) vs [] (arrivals 0 frames)))
    ∙ they_rise 0 frames

-- ---- lanes

abbrev by_key : ℕ → EndpointPair → ℕ
by_key lanes key = lane_of_key key lanes

pub below : (lanes : ℕ) (sight : Sight) → 1 ≤ lanes → lane_of (by_key lanes) sight < lanes
unfolding lane_of_key
below lanes (Tcp segment) some = omega arith
below lanes (Other class) some = omega arith

pub dealt : (lanes : ℕ) (sight : Sight) → lane_of (by_key lanes) sight ≡ lane_of_sight sight lanes
dealt lanes (Tcp segment) = refl
dealt lanes (Other class) = refl
