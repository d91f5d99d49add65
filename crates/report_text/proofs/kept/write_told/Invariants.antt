use Rattle.std.proofs.Common.{◌≡◌, drop, flat_map}
use Rattle.std.specs.List.{list_all}
use Rattle.report_text.specs.Lines.{field_line}
use Rattle.report_text.specs.Ranges.{field_fits}
use Rattle.report_text.proofs.WritesText.{Underway}
use Rattle.report_text.proofs.kept.write_told.Given as goal

abbrev pub invariant-loop-place : goal.invariant-loop-place
invariant-loop-place g l =
    Underway g.O.Sink l.initial.out l.out (flat_map field_line ((g.A.App.meaning l.app).fields l.tally))
    (flat_map field_line (drop l.place ((g.A.App.meaning l.app).fields l.tally)))
    × (list_all field_fits ((g.A.App.meaning l.app).fields l.tally) ≡ list_all field_fits (drop l.place ((g.A.App.meaning l.app).fields l.tally)))
