-- By the judgment of the head.
use Rattle.std.proofs.Common.{◌≡◌, length, Some, ap, arith}
use Rattle.pcapng_source.specs.Refusals.{refusal_of}
use Rattle.pcapng_source.proofs.Steps.{refuses-head, refuses-many, waits-short}
use Rattle.pcapng_source.proofs.reader.Reader.take_head.Goals as goal

pub returns-then-as_slice-lt-FIRST_FIELDS : goal.returns-then-as_slice-lt-FIRST_FIELDS
returns-then-as_slice-lt-FIRST_FIELDS c =
    waits-short c.args.self.now c.requires.stage c.requires.fits (omega (arith, ap length c.as_slice.ensures.bytes))

pub returns-then-allowed-eq0 : goal.returns-then-allowed-eq0
returns-then-allowed-eq0 c =
    rw c.offset.ensures (refuses-many c.args.self.now c.requires.stage c.requires.fits (omega (arith, ap length c.as_slice.ensures.bytes)) cc)

pub returns-in-Some : goal.returns-in-Some
returns-in-Some c =
    let r = c.args.self.now in
    let refusal : refusal_of r.section r.place.offset r.head ≡ Some c.in-Some.fault = cc in
    refuses-head r c.in-Some.fault c.requires.stage c.requires.fits (omega (arith, ap length c.as_slice.ensures.bytes)) (omega arith) refusal
