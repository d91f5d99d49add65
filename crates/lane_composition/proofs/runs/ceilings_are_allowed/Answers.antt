use Rattle.lane_composition.proofs.Whole.{allowed_ceilings}
use Rattle.lane_composition.proofs.runs.ceilings_are_allowed.Goals as goal

pub returns : goal.returns
returns c = allowed_ceilings
