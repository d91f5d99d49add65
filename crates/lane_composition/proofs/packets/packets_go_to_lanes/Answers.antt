use Rattle.lane_core.specs.Sight.{sight_of}
use Rattle.lane_composition.proofs.Dealt.{below, dealt}
use Rattle.lane_composition.proofs.packets.packets_go_to_lanes.Goals as goal

pub returns-clause-below : goal.returns-clause-below
returns-clause-below c = λ lanes sight some. below lanes sight some

pub returns-clause-frame : goal.returns-clause-frame
returns-clause-frame c = λ lanes frame. dealt lanes (sight_of frame)
