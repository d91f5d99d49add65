use Rattle.lane_core.proofs.Runs.{later_commands_change_none}
use Rattle.lane_core.proofs.laws.later_commands_change_none.Goals as goal

pub returns : goal.returns
returns c = later_commands_change_none
