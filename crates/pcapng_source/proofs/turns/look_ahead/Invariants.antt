-- The steps so far gave nothing.
use Rattle.pcapng_source.specs.Reading.{weight_of}
use Rattle.pcapng_source.specs.Turns.{Going}
use Rattle.pcapng_source.proofs.turns.look_ahead.Given as goal

abbrev pub invariant-loop : goal.invariant-loop
invariant-loop g l = Going g.S.Source l.fn.source l.source l.fn.reader l.reader

abbrev pub decreases-loop : goal.decreases-loop
decreases-loop g l = weight_of l.reader
