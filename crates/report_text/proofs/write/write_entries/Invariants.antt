use Rattle.std.proofs.Common.{drop, flat_map}
use Rattle.report_text.specs.Lines.{callback_line}
use Rattle.report_text.proofs.WritesText.{Underway}
use Rattle.report_text.proofs.write.write_entries.Given as goal

abbrev pub invariant-loop-entry : goal.invariant-loop-entry
invariant-loop-entry g l =
    Underway g.O.Sink l.initial.out l.out (flat_map callback_line l.entries) (flat_map callback_line (drop l.entry-index l.entries))
