use Rattle.std.proofs.Common.{arith}
use Rattle.lane_composition.proofs.runs.a_heavy_lane_makes_a_heavy_run.Goals as goal

pub returns-clause-run : goal.returns-clause-run
returns-clause-run c = λ app commands least most lane packets lanes l between rises numbered have heavy.
    let made = c.fronts_are_of_one_run.ensures.run app commands least most lane packets lanes between rises numbered have in
    let most_weighs = made.2.weights l in
    (made.0, made.1, omega (arith, heavy, most_weighs))

pub returns-clause-at_end : goal.returns-clause-at_end
returns-clause-at_end c = λ app commands least most lane packets lanes l between rises numbered have whole heavy.
    let made = c.fronts_are_of_one_run.ensures.run app commands least most lane packets lanes between rises numbered have in
    let most_weighs = made.2.weights_at_end l whole in
    (made.0, made.1, omega (arith, heavy, most_weighs))
