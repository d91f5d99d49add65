use Rattle.std.proofs.Common.{◌≡◌, map, drop}
use Rattle.app_api.specs.Numbers.{rise_from}
use Rattle.report_text.specs.Tidy.{least_after}
use Rattle.report_text.proofs.tidy.names_rise.Given as goal

-- whether all rise is whether the rest does
abbrev pub invariant-loop-of : goal.invariant-loop-of
invariant-loop-of l = rise_from 0 (map (λ r. r.name) l.records) ≡ rise_from (least_after l.last) (map (λ r. r.name) (drop l.of-index l.records))
