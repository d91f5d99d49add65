use Rattle.lane_core.proofs.Runs.{packet_is_added}
use Rattle.lane_core.proofs.laws.packet_is_added.Goals as goal

pub returns : goal.returns
returns c = packet_is_added
