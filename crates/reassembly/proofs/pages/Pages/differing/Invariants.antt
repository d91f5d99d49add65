use Rattle.std.proofs.Common.{◌≡◌, ◌-◌, ◌≤◌, length}
use Rattle.reassembly.specs.Pages.{differing_in}
use Rattle.reassembly.proofs.pages.Pages.differing.Given as goal

abbrev pub invariant-loop-done : goal.invariant-loop-done
invariant-loop-done l = (l.done ≤ length l.bytes) × (l.count ≡ differing_in l.self l.low l.bytes l.done)

abbrev pub decreases-loop-done : goal.decreases-loop-done
decreases-loop-done l = length l.bytes - l.done
