use Rattle.std.proofs.Common.{◌≡◌, ℕ, ◌<◌, ◌≤◌, is_some, false}
use Rattle.reassembly.specs.Receiver.{held}
use Rattle.reassembly.proofs.plain.is_free.Given as goal

abbrev pub invariant-loop-i : goal.invariant-loop-i
invariant-loop-i l = (k : ℕ) → l.position ≤ k → k < l.i → is_some (held l.cells k) ≡ false
