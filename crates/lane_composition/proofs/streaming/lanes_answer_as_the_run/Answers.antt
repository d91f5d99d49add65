use Rattle.lane_composition.proofs.Answered.{answers_whole, answers_front, bytes_of_run}
use Rattle.lane_composition.proofs.streaming.lanes_answer_as_the_run.Goals as goal

pub returns-clause-whole : goal.returns-clause-whole
returns-clause-whole c = λ app commands lane frames lanes vs frame_of d l one. answers_whole app commands frames vs frame_of d lane l lanes one

pub returns-clause-fronts : goal.returns-clause-fronts
returns-clause-fronts c = λ app commands lane frames lanes vs frame_of d l fronts. answers_front app commands frames vs frame_of d lane l lanes fronts

pub returns-clause-bytes : goal.returns-clause-bytes
returns-clause-bytes c = λ app commands frames vs frame_of d. bytes_of_run app commands frames vs frame_of d
