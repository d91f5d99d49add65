use Rattle.std.proofs.Common.{◌≡◌, map, take}
use Rattle.lane_core.proofs.report.version_of_each.Given as goal

-- the versions of the records so far
abbrev pub invariant-loop-of : goal.invariant-loop-of
invariant-loop-of l = l.versions.items ≡ map (λ s. s.version) (take l.of-index l.records)
