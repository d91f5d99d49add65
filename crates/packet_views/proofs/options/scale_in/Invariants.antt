use Rattle.std.proofs.Common.{length, ◌-◌, ◌≡◌, ◌≤◌, drop}
use Rattle.packet_views.specs.Options.{scale_after}
use Rattle.packet_views.proofs.options.scale_in.Given as goal

-- the walk from here on finds what the whole walk finds
abbrev pub invariant-loop-at : goal.invariant-loop-at
invariant-loop-at l = (l.at ≤ length l.options) × (scale_after 0 (drop l.at l.options) ≡ scale_after 0 l.options)

abbrev pub decreases-loop-at : goal.decreases-loop-at
decreases-loop-at l = length l.options - l.at
