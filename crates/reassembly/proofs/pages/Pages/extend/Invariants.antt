use Rattle.std.proofs.Common.{◌-◌, vec_len}
use Rattle.reassembly.specs.Pages.{IsExtended}
use Rattle.reassembly.proofs.pages.Pages.extend.Given as goal

abbrev pub invariant-loop-self : goal.invariant-loop-self
invariant-loop-self l = IsExtended l.fn.self l.self

abbrev pub decreases-loop-self : goal.decreases-loop-self
decreases-loop-self l = l.count - vec_len l.self.keys
