use Rattle.std.proofs.Common.{arith}
use Rattle.std.proofs.lemmas.Fmt.{length-decimal-le}
use Rattle.report_text.proofs.backward.BackwardLine.put_small.Goals as goal

pub write_digits-self-requires : goal.write_digits-self-requires
write_digits-self-requires c = rw c.from.ensures (omega (arith, length-decimal-le 5 c.args.n (omega arith) (omega arith) (omega arith)), omega arith)

pub returns-clause-room : goal.returns-clause-room
returns-clause-room c =
    let few = length-decimal-le 5 c.args.n (omega arith) (omega arith) (omega arith) in
    omega (arith, rw c.from.ensures at c.write_digits-self.ensures.start, few)
