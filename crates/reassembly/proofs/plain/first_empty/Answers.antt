use Rattle.std.proofs.Common.{sym, ap, arith, is_some, length}
use Rattle.reassembly.proofs.Cells.{next_is, held_past}
use Rattle.reassembly.proofs.plain.first_empty.Goals as goal

pub returns-then-is_none : goal.returns-then-is_none
returns-then-is_none c = sym (next_is c.args.cells.now c.loop-i.i c.loop-i.invariant c.if-is_none.ensures)

pub returns : goal.returns
returns c = sym (next_is c.args.cells.now (length c.args.cells.now) (λ k l. c.loop-i.invariant k (omega arith)) (ap is_some (held_past c.args.cells.now (length c.args.cells.now) (omega arith))))
