use Rattle.std.proofs.Common.{◌≤◌, take}
use Rattle.std.specs.List.{All}
use Rattle.event_trees.proofs.private.have_numbers.Given as goal

abbrev pub invariant-loop-reg : goal.invariant-loop-reg
invariant-loop-reg l = All (λ r. (1 ≤ r.number) × (r.number ≤ 255)) (take l.reg-index l.list)
