use Rattle.std.proofs.Common.{◌≡◌, take}
use Rattle.filter_lang.proofs.expr.copy_sum.Given as goal

abbrev pub invariant-loop-step : goal.invariant-loop-step
invariant-loop-step l = l.rest ≡ take l.step-index l.step-items
