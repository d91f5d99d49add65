use Rattle.lane_composition.proofs.Whole.{verdicts_by, verdicts_in_order, verdicts_numbered, verdicts_front}
use Rattle.lane_composition.proofs.runs.verdicts_of_a_run.Goals as goal

pub returns-clause-verdicts : goal.returns-clause-verdicts
returns-clause-verdicts c = λ app commands packets vs. verdicts_by app commands packets vs

pub returns-clause-packets : goal.returns-clause-packets
returns-clause-packets c = λ app commands packets vs. verdicts_in_order app commands vs packets

pub returns-clause-numbered : goal.returns-clause-numbered
returns-clause-numbered c = λ app commands frames vs. verdicts_numbered app commands vs frames

pub returns-clause-front : goal.returns-clause-front
returns-clause-front c = λ app commands packets more vs. verdicts_front app commands vs packets more
