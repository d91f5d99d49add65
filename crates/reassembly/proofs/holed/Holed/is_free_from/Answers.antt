use Rattle.std.proofs.Common.{◌-◌, ◌<◌, arith, length}
use Rattle.std.proofs.lemmas.Bool.{leb-false}
use Rattle.reassembly.proofs.Holes.{holed_of_laid, in_run}
use Rattle.reassembly.proofs.holed.Holed.is_free_from.Goals as goal

pub returns-clause-taken : goal.returns-clause-taken
returns-clause-taken c more =
    let h = c.args.self.now in
    let is = holed_of_laid h c.requires in
    let last = length h.bytes.items - 1 in
    let over : c.args.position < c.len.result = leb-false c.len.result c.args.position more in
    (last, omega arith, in_run h last is.hole (omega arith) (omega arith))
