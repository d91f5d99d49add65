use Rattle.std.proofs.Common.{◌≡◌, ℕ, ◌<◌, is_some, true}
use Rattle.reassembly.specs.Receiver.{held}
use Rattle.reassembly.proofs.plain.first_empty.Given as goal

abbrev pub invariant-loop-i : goal.invariant-loop-i
invariant-loop-i l = (k : ℕ) → k < l.i → is_some (held l.cells k) ≡ true
