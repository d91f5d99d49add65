use Rattle.std.proofs.Common.{◌≡◌, drop, map}
use Rattle.std.specs.List.{list_all}
use Rattle.report_text.specs.Ranges.{record_fits}
use Rattle.report_text.specs.Report.{records_text}
use Rattle.report_text.proofs.WritesText.{Underway}
use Rattle.lane_core.specs.End.{ended}
use Rattle.lane_core.proofs.report.write_all_kept.Given as goal

abbrev pub invariant-loop-of : goal.invariant-loop-of
invariant-loop-of g l =
    Underway g.O.Sink l.initial.out l.out (records_text (map (ended (g.A.App.meaning l.app)) l.records))
    (records_text (map (ended (g.A.App.meaning l.app)) (drop l.of-index l.records)))
    × (list_all record_fits (map (ended (g.A.App.meaning l.app)) l.records) ≡ list_all record_fits (map (ended (g.A.App.meaning l.app)) (drop l.of-index l.records)))
