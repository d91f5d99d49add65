use Rattle.lane_core.proofs.Runs.{command_changes_none}
use Rattle.lane_core.proofs.laws.command_changes_none.Goals as goal

pub returns : goal.returns
returns c = command_changes_none
