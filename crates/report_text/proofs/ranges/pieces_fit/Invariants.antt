use Rattle.std.proofs.Common.{◌≡◌, true, take}
use Rattle.std.specs.List.{list_all}
use Rattle.report_text.specs.Ranges.{piece_fits}
use Rattle.report_text.proofs.ranges.pieces_fit.Given as goal

abbrev pub invariant-loop-at : goal.invariant-loop-at
invariant-loop-at l = list_all piece_fits (take l.at-index l.pieces) ≡ true
