use Rattle.std.proofs.Common.{length, ◌-◌, ◌≡◌, ◌≤◌, take, true}
use Rattle.parallel_report.proofs.Fitting.{fit}
use Rattle.parallel_report.proofs.Lines.{lines}
use Rattle.parallel_report.proofs.text.made_of.Given as goal

abbrev pub invariant-loop-done : goal.invariant-loop-done
invariant-loop-done g l = record {
  within : l.done ≤ length l.records;
  text : l.sink.text.items ≡ lines (g.A.App.meaning l.app) (take l.done l.records);
  fit : fit (g.A.App.meaning l.app) (take l.done l.records) ≡ true;
}

abbrev pub decreases-loop-done : goal.decreases-loop-done
decreases-loop-done g l = length l.records - l.done
