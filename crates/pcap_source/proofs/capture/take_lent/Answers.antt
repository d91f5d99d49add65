-- What was copied is the front of what was lent, and that was passed over.
use Rattle.std.proofs.Common.{◌≤◌, ◌+◌, length}
use Rattle.std.proofs.lemmas.Bool.{OnTrue_at}
use Rattle.pcap_source.proofs.Lent.{is_record, is_consumed, passed_consumes}
use Rattle.pcap_source.proofs.capture.take_lent.Goals as goal

pub returns-clause-whole : goal.returns-clause-whole
returns-clause-whole g c =
    let lent = c.lend-front.result.now in
    let copied = c.in_ok-copy_parts.ensures in
    let front = c.in-Some.ensures in
    is_record c.args.order c.in-Some.captured lent c.copy_parts.new.frame c.read_numbers.new.frame copied.head copied.bytes c.read_numbers.ensures
    front.within front.bounded front.told

pub returns-clause-consumed : goal.returns-clause-consumed
returns-clause-consumed g c =
    let lent = c.lend-front.result.now in
    let copied = c.in_ok-copy_parts.ensures in
    let within : 16 + c.in-Some.captured ≤ length lent = c.in-Some.ensures.within in
    is_consumed c.args.order c.in-Some.captured lent c.copy_parts.new.frame c.read_numbers.new.frame copied.head copied.bytes c.read_numbers.ensures
    _ _ (passed_consumes _ _ (16 + c.in-Some.captured) lent within c.lend-front.ensures.front (OnTrue_at c.if-not-pass.false c.pass.ensures.bytes))
