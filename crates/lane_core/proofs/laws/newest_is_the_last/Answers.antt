use Rattle.lane_core.proofs.Runs.{newest_is_the_last}
use Rattle.lane_core.proofs.laws.newest_is_the_last.Goals as goal

pub returns : goal.returns
returns c = newest_is_the_last
