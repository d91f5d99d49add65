use Rattle.std.proofs.Common.{arith}
use Rattle.std.proofs.Math.Nat.{min-eq_left}
use Rattle.lane_composition.proofs.Fitting.{callbacks_weigh, run_drops_few}
use Rattle.lane_composition.proofs.runs.counts_of_a_run_fit.Goals as goal

pub returns-clause-callbacks : goal.returns-clause-callbacks
returns-clause-callbacks c = λ run light. let few = callbacks_weigh run in min-eq_left (omega (arith, few, light))

pub returns-clause-drops : goal.returns-clause-drops
returns-clause-drops c = λ app commands packets vs short. let few = run_drops_few app commands packets vs in min-eq_left (omega (arith, few, short))
