use Rattle.lane_composition.proofs.Dealt.{numbers_rise, run_rises}
use Rattle.lane_composition.proofs.packets.packets_of_a_capture_rise.Goals as goal

pub returns-clause-numbers : goal.returns-clause-numbers
returns-clause-numbers c = λ frames. numbers_rise 0 frames

pub returns-clause-run : goal.returns-clause-run
returns-clause-run c = λ app commands frames vs. run_rises app commands frames vs
