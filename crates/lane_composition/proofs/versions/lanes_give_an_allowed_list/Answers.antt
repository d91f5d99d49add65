use Rattle.lane_composition.proofs.Composed.{one_allowed}
use Rattle.lane_composition.proofs.versions.lanes_give_an_allowed_list.Goals as goal

pub returns : goal.returns
returns c = record { list = one_allowed }
