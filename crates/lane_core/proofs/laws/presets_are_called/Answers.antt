use Rattle.lane_core.proofs.Presets.{presets_are_called}
use Rattle.lane_core.proofs.laws.presets_are_called.Goals as goal

pub returns : goal.returns
returns c = presets_are_called
