use Rattle.std.proofs.Common.{◌≡◌, ℕ, ◌-◌, ◌≤◌, [], drop, length}
use Rattle.std.specs.Prelude.{IsTrue}
use Rattle.app_api.specs.Events.{is_built_in}
use Rattle.app_api.specs.Hearers.{joined, hearers_in}
use Rattle.shared_forest.specs.Layout.{AreLaidOut, ArePacked}
use Rattle.shared_forest.specs.Listing.{listing_after}
use Rattle.shared_forest.specs.Heard.{hearers_of}
use Rattle.shared_forest.proofs.heard.heard_at.Given as goal

-- a root comes next, and who hears is who was noted and who hears from there on
abbrev pub invariant-loop-at : goal.invariant-loop-at
invariant-loop-at l =
    (1 ≤ l.at) × AreLaidOut 0 (drop l.at l.nodes) × ((place : ℕ) × ArePacked place (drop l.at l.nodes) (length l.slots)) ×
    ((event : ℕ) → IsTrue (is_built_in event) → joined (hearers_in l.heard event) (hearers_of l.hook event (listing_after [] (drop l.at l.nodes) l.slots))
    ≡ hearers_of l.hook event (listing_after [] (drop 1 l.nodes) l.slots))

abbrev pub decreases-loop-at : goal.decreases-loop-at
decreases-loop-at l = length l.nodes - l.at
