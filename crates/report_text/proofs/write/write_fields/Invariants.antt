use Rattle.std.proofs.Common.{drop, flat_map}
use Rattle.report_text.specs.Lines.{field_line}
use Rattle.report_text.proofs.WritesText.{Underway}
use Rattle.report_text.proofs.write.write_fields.Given as goal

abbrev pub invariant-loop-name : goal.invariant-loop-name
invariant-loop-name g l = Underway g.O.Sink l.initial.out l.out (flat_map field_line l.fields) (flat_map field_line (drop l.name-index l.fields))
