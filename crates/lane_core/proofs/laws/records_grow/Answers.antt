use Rattle.std.proofs.Common.{[]}
use Rattle.lane_core.specs.Places.{IsSingle}
use Rattle.lane_core.proofs.Growing.{records_grown}
use Rattle.lane_core.proofs.laws.records_grow.Goals as goal

pub returns : goal.returns
unfolding IsSingle
returns c = λ app control_at ps. records_grown app control_at ps [] (λ key. tt)
