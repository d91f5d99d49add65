use Rattle.lane_core.proofs.Runs.{one_event_more}
use Rattle.lane_core.proofs.laws.one_event_more.Goals as goal

pub returns : goal.returns
returns c = one_event_more
