use Rattle.std.proofs.Common.{◌≡◌, ℕ, ◌+◌, ◌<◌, ◌≤◌, List, Option}
use Rattle.reassembly.specs.declared.answers.Placed.{Placed}
use Rattle.reassembly.specs.declared.answers.Policy.{Policy}
use Rattle.reassembly.specs.declared.plain.Before.{Before}
use Rattle.reassembly.specs.Receiver.{held}
use Rattle.reassembly.specs.Segment.{held_after}
use Rattle.reassembly.specs.Plain.{judged_below}
use Rattle.reassembly.proofs.plain.write_all.Given as goal

-- the first i bytes are written and counted
pub record IsWritten (before : Before) (policy : Policy) (start : ℕ) (bytes : List ℕ) (old cells : List (Option ℕ)) (placed : Placed) (i : ℕ) : Type 0 where
  pub done : (p : ℕ) → p < start + i → held cells p ≡ held_after before.next before.limit policy start bytes p (held old p)
  pub rest : (p : ℕ) → start + i ≤ p → held cells p ≡ held old p
  pub judged : placed ≡ judged_below before start bytes old i

abbrev pub invariant-loop-i : goal.invariant-loop-i
invariant-loop-i l = IsWritten l.before l.policy l.start l.bytes l.initial.cells l.cells l.placed l.i
