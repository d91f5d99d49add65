-- What was read ends in the head behind it.
use Rattle.std.proofs.Common.{◌≤◌, ℕ, length, arith, length-take}
use Rattle.std.proofs.lemmas.List.{take-append-le}
use Rattle.pcapng_source.proofs.Borders.{crosses-told}
use Rattle.pcapng_source.proofs.turns.cross.Goals as goal

pub returns-clause-gives : goal.returns-clause-gives
returns-clause-gives g c =
    let count = c.in-Ok.count in
    let read = c.read.new.buf in
    let few : count ≤ length read = c.in-Ok.ensures.bound.0 in
    crosses-told c.args.reader.now c.cross.new.self _ _ c.at_hand.result.now read _ count c.in-Some.border c.in-Some.ensures.border
    (omega (arith, length-take {A = ℕ}, few)) c.at_hand.ensures.front c.in-Ok.ensures.bytes.0 (take-append-le count read _ few) c.cross.ensures.rest
