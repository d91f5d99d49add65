use Rattle.lane_composition.proofs.Composed.{one_list}
use Rattle.lane_composition.proofs.shares.lanes_make_one_run.Goals as goal

pub returns : goal.returns
returns c = record { list = one_list }
