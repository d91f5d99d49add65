use Rattle.lane_composition.proofs.Composed.{front_verdicts}
use Rattle.lane_composition.proofs.verdicts.a_front_of_a_lane.Goals as goal

pub returns : goal.returns
returns c = record { verdicts = λ endings judge lane packets parts more vs l runs. front_verdicts endings lane packets parts more vs runs judge l }
