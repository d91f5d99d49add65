use Rattle.std.proofs.Common.{◌≡◌, map, take}
use Rattle.lane_core.proofs.end.versions_of.Given as goal

-- the pairs of the records so far
abbrev pub invariant-loop-slot : goal.invariant-loop-slot
invariant-loop-slot l = l.items.items ≡ map (λ s. (s.name, s.version)) (take l.slot-index l.slots)
