use Rattle.std.proofs.Common.{◌≤◌, ◌-◌, length}
use Rattle.report_text.proofs.ReadFault.{Reached}
use Rattle.report_text.proofs.read.read_report.Given as goal

abbrev pub invariant-loop-end : goal.invariant-loop-end
invariant-loop-end l = record { reached : Reached l.text l.at l.taker; within : l.at ≤ length l.text }

abbrev pub decreases-loop-end : goal.decreases-loop-end
decreases-loop-end l = length l.text - l.at
