use Rattle.std.proofs.Common.{◌≡◌, arith, ap, refl, map}
use Rattle.reassembly.specs.Waiting.{run_of}
use Rattle.reassembly.proofs.Listed.{first_start}
use Rattle.reassembly.proofs.waiting.Runs.pop_touching.Goals as goal

pub returns-in-Some-pop_first-clause-some : goal.returns-in-Some-pop_first-clause-some
returns-in-Some-pop_first-clause-some c =
    let start : c.in-Some-pop_first.field-0-0 ≡ c.in-Some.start.now = first_start _ _ _ _ c.in-Some-pop_first.ensures.removal c.in-Some.ensures.first in
    (run_of (c.in-Some-pop_first.field-0-0, c.in-Some-pop_first.end), ap (map run_of) c.in-Some-pop_first.ensures.removal, omega arith, refl)
