-- No record is empty.
use Rattle.std.proofs.Common.{length, ap, arith}
use Rattle.capture_maker.proofs.Sizes.{length-record_of, some_bytes}
use Rattle.capture_maker.proofs.maker.make_next.Goals as goal

pub returns-in-Some-clause-end : goal.returns-in-Some-clause-end
returns-in-Some-clause-end c = λ none.
    let turn = c.in-Some.turn in
    let same = ap length c.put_record.ensures in
    absurd (omega (arith, none, same, length-record_of c.args.index turn, some_bytes turn.step))
