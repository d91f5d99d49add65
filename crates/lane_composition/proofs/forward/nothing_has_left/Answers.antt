use Rattle.lane_composition.proofs.Leaving.{none_left}
use Rattle.lane_composition.proofs.forward.nothing_has_left.Goals as goal

pub returns : goal.returns
returns c = record { none = none_left }
