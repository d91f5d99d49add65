use Rattle.std.proofs.Common.{◌≡◌, ◌+◌, ◌-◌, arith, ap, ap₂, ◌∙◌, sym, not, eqb, length, take, drop, slice_index}
use Rattle.reassembly.specs.Pages.{byte_of}
use Rattle.reassembly.proofs.Counts.{count_below-le, count_below-stretch}
use Rattle.reassembly.proofs.Laid.{length-part}
use Rattle.reassembly.proofs.Parts.{part_at}
use Rattle.reassembly.proofs.pages.Pages.differing.Goals as goal

pub overflow_add-count : goal.overflow_add-count
overflow_add-count c =
    let few = count_below-le (λ i. not (eqb (byte_of c.args.self.now (c.args.low + i)) (slice_index c.args.bytes.now i))) c.loop-done.done in
    omega (arith, few)

pub loop-done-preserved : goal.loop-done-preserved
loop-done-preserved c =
    let s = c.args.self.now in
    let low = c.args.low in
    let bytes = c.args.bytes.now in
    let done = c.loop-done.done in
    let to = done + c.part_len.result in
    let part = take (to - done) (drop done bytes) in
    let len : length part ≡ to - done = length-part done to bytes (omega arith) (omega arith) in
    let more = count_below-stretch
    (λ i. not (eqb (byte_of s (low + i)) (slice_index bytes i)))
    (λ i. not (eqb (slice_index c.part.result.now i) (slice_index part i)))
    done (length part) to (omega arith)
    (λ i l. ap not (ap₂ eqb
    (ap (byte_of s) (let e : low + (done + i) ≡ low + done + i = omega arith in e) ∙ sym (c.part.ensures.bytes i l))
    (sym (part_at done to bytes i 0 (omega arith))))) in
    (omega arith, omega (arith, more, c.loop-done.invariant.1, c.differing-count.ensures.value))

pub returns-clause-bound : goal.returns-clause-bound
returns-clause-bound c =
    let few = count_below-le (λ i. not (eqb (byte_of c.args.self.now (c.args.low + i)) (slice_index c.args.bytes.now i))) c.loop-done.done in
    omega (arith, few, c.loop-done.invariant)
