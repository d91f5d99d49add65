use Rattle.lane_composition.proofs.Whole.{records_by_ceilings, verdicts_by_ceilings}
use Rattle.lane_composition.proofs.runs.without_live_commands_there_is_one_run.Goals as goal

pub returns-clause-records : goal.returns-clause-records
returns-clause-records c = λ app commands least most lane packets vs same allowed. records_by_ceilings app commands packets vs least most lane same allowed

pub returns-clause-verdicts : goal.returns-clause-verdicts
returns-clause-verdicts c = λ app commands least most lane packets vs same allowed. verdicts_by_ceilings app commands packets vs least most lane same allowed
