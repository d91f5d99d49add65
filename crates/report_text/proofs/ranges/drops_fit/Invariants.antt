use Rattle.std.proofs.Common.{◌≡◌, true, take}
use Rattle.std.specs.List.{list_all}
use Rattle.report_text.specs.Ranges.{drop_fits}
use Rattle.report_text.proofs.ranges.drops_fit.Given as goal

abbrev pub invariant-loop-index : goal.invariant-loop-index
invariant-loop-index l = list_all drop_fits (take l.index-index l.drops) ≡ true
