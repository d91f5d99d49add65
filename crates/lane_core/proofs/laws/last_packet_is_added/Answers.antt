use Rattle.lane_core.proofs.Runs.{last_packet_is_added}
use Rattle.lane_core.proofs.laws.last_packet_is_added.Goals as goal

pub returns : goal.returns
returns c = last_packet_is_added
