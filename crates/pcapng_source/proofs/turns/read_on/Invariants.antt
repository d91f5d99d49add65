-- The steps so far gave nothing.
use Rattle.pcapng_source.specs.Reading.{weight_of}
use Rattle.pcapng_source.specs.Turns.{Going}
use Rattle.pcapng_source.proofs.turns.read_on.Given as goal

abbrev pub invariant-loop-count : goal.invariant-loop-count
invariant-loop-count g l = Going g.S.Source l.fn.source l.source l.fn.reader l.reader

abbrev pub decreases-loop-count : goal.decreases-loop-count
decreases-loop-count g l = weight_of l.reader
