use Rattle.std.proofs.Common.{◌≡◌, map, drop}
use Rattle.app_api.specs.Numbers.{rise_from}
use Rattle.report_text.specs.Tidy.{least_after}
use Rattle.report_text.proofs.tidy.drops_rise.Given as goal

-- whether all rise is whether the rest does
abbrev pub invariant-loop-index : goal.invariant-loop-index
invariant-loop-index l = rise_from 0 (map (λ d. d.0) l.drops) ≡ rise_from (least_after l.last) (map (λ d. d.0) (drop l.index-index l.drops))
