use Rattle.std.proofs.Common.{◌≡◌, drop}
use Rattle.report_text.specs.Tidy.{least_after}
use Rattle.report_text.specs.ReadLines.{least_from}
use Rattle.report_text.proofs.read.taker.last_place.Given as goal

abbrev pub invariant-loop-index : goal.invariant-loop-index
invariant-loop-index l = least_from 0 l.drops ≡ least_from (least_after l.last) (drop l.index-index l.drops)
