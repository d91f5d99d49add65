use Rattle.std.proofs.Common.{◌≡◌, ◌<◌, ◌≤◌, ◌+◌, ◌*◌, ◌++◌, length}
use Rattle.std.specs.VecDeque.{deque_capacity}
use Rattle.report_text.proofs.WritesText.{Underway}
use Rattle.parallel_report.specs.Pieces.{ArePieces, records_of}
use Rattle.parallel_report.proofs.Fitting.{fit}
use Rattle.parallel_report.proofs.Lines.{lines}
use Rattle.parallel_report.proofs.report.write_pieces.Given as goal

-- the pieces that are on their way and the records that are left are still to be written
abbrev pub invariant-loop-left : goal.invariant-loop-left
invariant-loop-left g l = record {
  pieces : ArePieces g.A.App (g.A.App.meaning l.app) l.ahead.items;
  room : l.most ≤ deque_capacity l.ahead;
  written : Underway g.O.Sink l.initial.out l.out (lines (g.A.App.meaning l.app) l.records)
      (lines (g.A.App.meaning l.app) (records_of l.ahead.items ++ l.left));
  some : 0 < l.share;
  fit : fit (g.A.App.meaning l.app) l.records ≡ fit (g.A.App.meaning l.app) (records_of l.ahead.items ++ l.left);
}

abbrev pub decreases-loop-left : goal.decreases-loop-left
decreases-loop-left g l = 2 * length l.left + length l.ahead.items
