use Rattle.std.proofs.Common.{◌≡◌, take, fold}
use Rattle.filter_lang.specs.Meaning.{atom_value, joined_value}
use Rattle.filter_lang.proofs.evaluation.value.Given as goal

abbrev pub invariant-loop-step : goal.invariant-loop-step
invariant-loop-step l =
    l.value ≡ fold (λ n step. joined_value n step.0 (atom_value l.facts step.1)) (atom_value l.facts l.sum.first) (take l.step-index l.step-items)
