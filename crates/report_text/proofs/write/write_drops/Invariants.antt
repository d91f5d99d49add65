use Rattle.std.proofs.Common.{drop, flat_map}
use Rattle.report_text.specs.Lines.{drop_line}
use Rattle.report_text.proofs.WritesText.{Underway}
use Rattle.report_text.proofs.write.write_drops.Given as goal

abbrev pub invariant-loop-index : goal.invariant-loop-index
invariant-loop-index g l = Underway g.O.Sink l.initial.out l.out (flat_map drop_line l.drops) (flat_map drop_line (drop l.index-index l.drops))
