-- What was kept so far is what was consumed.
use Rattle.std.proofs.Common.{◌-◌, length}
use Rattle.mos_bytes.proofs.Moves.{Reading}
use Rattle.mos_bytes.proofs.shelf.read_whole.Given as goal

abbrev pub invariant-loop-bytes : goal.invariant-loop-bytes
invariant-loop-bytes g l = Reading g.S.Source.left g.S.Source.faults g.S.Source.lasting l.fn.source l.source l.bytes.items l.limit

abbrev pub decreases-loop-bytes : goal.decreases-loop-bytes
decreases-loop-bytes g l = l.limit - length l.bytes.items
