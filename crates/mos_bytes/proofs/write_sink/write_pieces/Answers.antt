-- Each call of the writer adds to the front that it took.
use Rattle.std.proofs.Common.{arith}
use Rattle.mos_bytes.proofs.Writes.{Appends-next, AppendsFront-kept, AppendsFront-none}
use Rattle.mos_bytes.proofs.write_sink.write_pieces.Goals as goal

pub loop-done-preserved : goal.loop-done-preserved
loop-done-preserved g c = (omega arith, Appends-next _ _ _ _ _ _ c.loop-done.invariant.1 c.in-Ok.ensures.bytes)

pub returns-in_default-2-clause-part : goal.returns-in_default-2-clause-part
returns-in_default-2-clause-part g c = AppendsFront-none _ _ _ _ _ _ _ c.loop-done.invariant.1 c.in-Ok.ensures.bytes (omega arith)

pub returns-in_default-3-clause-part : goal.returns-in_default-3-clause-part
returns-in_default-3-clause-part g c = AppendsFront-kept _ _ _ _ _ c.loop-done.invariant.1 c.in_default.ensures.bytes
