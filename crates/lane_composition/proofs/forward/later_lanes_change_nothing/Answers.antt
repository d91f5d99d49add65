use Rattle.lane_composition.proofs.Sharing.{share_same}
use Rattle.lane_composition.proofs.Leaving.{left_same}
use Rattle.lane_composition.proofs.forward.later_lanes_change_nothing.Goals as goal

pub returns-clause-share : goal.returns-clause-share
returns-clause-share c = share_same

pub returns-clause-left : goal.returns-clause-left
returns-clause-left c = left_same
