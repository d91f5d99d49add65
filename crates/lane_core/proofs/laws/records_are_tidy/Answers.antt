use Rattle.lane_core.proofs.Tidiness.{records_are_tidy}
use Rattle.lane_core.proofs.laws.records_are_tidy.Goals as goal

pub returns : goal.returns
returns c = λ app control_at last ps lawful are rising. records_are_tidy app control_at last ps lawful are rising
