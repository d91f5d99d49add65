-- What was kept, and then what came beyond the limit.
use Rattle.std.proofs.Common.{◌++◌, take, arith, length-take-le}
use Rattle.std.proofs.lemmas.List.{length-append}
use Rattle.std.proofs.KnownBytes.{Consumes-trans}
use Rattle.mos_bytes.proofs.shelf.read_whole.Goals as goal

pub returns-then-count-limit-clause-too_long : goal.returns-then-count-limit-clause-too_long
returns-then-count-limit-clause-too_long g c = λ told.
    let kept = c.loop-bytes.bytes.items in
    let count = c.in_ok-count.count in
    let came = c.in_ok-count.ensures.bytes in
    let front = take count c.fill.new.buf in
    record {
      bytes = kept ++ front;
      consumed = Consumes-trans _ _ _ _ _ c.loop-bytes.invariant.consumed came.consumed;
      counted = omega (arith, length-append kept front, length-take-le count c.fill.new.buf came.within, c.len.ensures);
      over = omega (arith, length-append kept front, length-take-le count c.fill.new.buf came.within, c.len.ensures, c.if-count-limit.true, c.loop-bytes.invariant.within);
    }
