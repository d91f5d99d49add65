use Rattle.std.proofs.Common.{take}
use Rattle.std.specs.Prelude.{◌≢◌}
use Rattle.std.specs.List.{All}
use Rattle.event_tests.proofs.forests.is_absent.Given as goal

abbrev pub invariant-loop-reg : goal.invariant-loop-reg
invariant-loop-reg l = All (λ r. r.number ≢ l.number) (take l.reg-index l.list)
