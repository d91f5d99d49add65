use Rattle.lane_core.proofs.Once.{packets_once}
use Rattle.lane_core.proofs.laws.packets_stand_once.Goals as goal

pub returns : goal.returns
returns c = λ app control_at ps. packets_once app control_at ps
