use Rattle.std.proofs.Common.{drop}
use Rattle.report_text.specs.Report.{records_text}
use Rattle.report_text.proofs.WritesText.{Underway}
use Rattle.report_text.proofs.write.write_records.Given as goal

abbrev pub invariant-loop-of : goal.invariant-loop-of
invariant-loop-of g l = Underway g.O.Sink l.initial.out l.out (records_text l.records) (records_text (drop l.of-index l.records))
