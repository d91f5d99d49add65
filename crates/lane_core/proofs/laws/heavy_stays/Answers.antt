use Rattle.lane_core.proofs.Runs.{heavy_stays}
use Rattle.lane_core.proofs.laws.heavy_stays.Goals as goal

pub returns : goal.returns
returns c = heavy_stays
