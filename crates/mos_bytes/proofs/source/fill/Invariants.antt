-- The front of the buffer is what was consumed so far.
use Rattle.std.proofs.Common.{length, ◌-◌}
use Rattle.mos_bytes.proofs.Moves.{Filling}
use Rattle.mos_bytes.proofs.source.fill.Given as goal

abbrev pub invariant-loop-filled : goal.invariant-loop-filled
invariant-loop-filled g l = Filling g.S.Source.left g.S.Source.faults g.S.Source.lasting l.initial.source l.source l.buf l.filled

abbrev pub decreases-loop-filled : goal.decreases-loop-filled
decreases-loop-filled g l = length l.initial.buf - l.filled
