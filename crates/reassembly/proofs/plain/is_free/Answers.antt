use Rattle.std.proofs.Common.{arith, sym}
use Rattle.reassembly.proofs.Fins.{free_cells, taken_cell_at}
use Rattle.reassembly.proofs.plain.is_free.Goals as goal

pub returns : goal.returns
returns c = free_cells c.args.cells.now c.args.position (λ k l within. c.loop-i.invariant k l (omega arith))

pub returns-then-is_some : goal.returns-then-is_some
returns-then-is_some c = taken_cell_at c.args.cells.now c.args.position c.loop-i.i (omega arith) (sym c.if-is_some.ensures)
