-- What was copied is what is gone.
use Rattle.std.proofs.Common.{◌≤◌, ◌-◌, length, drop, slice_range, sym, ◌∙◌, arith, length-take}
use Rattle.pcapng_source.proofs.Gives.{gives_front}
use Rattle.pcapng_source.proofs.held.Made.give.Goals as goal

pub returns-clause-bytes : goal.returns-clause-bytes
returns-clause-bytes c =
    let n = c.copy_front-count.result in
    let m = c.self.inside in
    let few = c.copy_front-count.ensures.count in
    let fits : n ≤ length (slice_range m.bytes m.place m.end) = omega arith in
    let within : n ≤ m.end - m.place = omega (arith, fits, length-take (m.end - m.place) (drop m.place m.bytes)) in
    sym c.self.view_is ∙ gives_front n m.place m.end m.bytes c.copy_front-count.new.to _ fits within c.copy_front-count.ensures.copied
