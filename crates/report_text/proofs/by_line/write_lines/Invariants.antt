use Rattle.std.proofs.Common.{◌≡◌, length}
use Rattle.mos_bytes.proofs.Writing.{Writing}
use Rattle.report_text.proofs.by_line.write_lines.Given as goal

abbrev pub invariant-loop-len : goal.invariant-loop-len
invariant-loop-len g l =
    Writing g.O.Sink.taken g.O.Sink.faults l.initial.out l.out l.text l.rest
    × (g.O.Sink.lasting l.out ≡ g.O.Sink.lasting l.initial.out)

abbrev pub decreases-loop-len : goal.decreases-loop-len
decreases-loop-len g l = length l.rest
