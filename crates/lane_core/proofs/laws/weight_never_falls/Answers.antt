use Rattle.lane_core.proofs.Weighing.{weight_never_falls}
use Rattle.lane_core.proofs.laws.weight_never_falls.Goals as goal

pub returns : goal.returns
returns c = weight_never_falls
