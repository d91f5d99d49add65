use Rattle.std.proofs.Common.{◌≡◌, length, flat_map}
use Rattle.std.specs.List.{list_all}
use Rattle.report_text.specs.Lines.{callback_line}
use Rattle.report_text.specs.Ranges.{entry_fits}
use Rattle.report_text.proofs.WritesText.{Underway}
use Rattle.report_text.proofs.kept.write_callbacks.Given as goal

abbrev pub invariant-loop-callback : goal.invariant-loop-callback
invariant-loop-callback g l =
    Underway g.O.Sink l.initial.out l.out (flat_map callback_line l.log) (flat_map callback_line l.walk)
    × (list_all entry_fits l.log ≡ list_all entry_fits l.walk)

abbrev pub decreases-loop-callback : goal.decreases-loop-callback
decreases-loop-callback g l = length l.walk
