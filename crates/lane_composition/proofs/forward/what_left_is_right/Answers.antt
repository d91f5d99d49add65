use Rattle.lane_composition.proofs.Leaving.{right_front, right_all}
use Rattle.lane_composition.proofs.forward.what_left_is_right.Goals as goal

pub returns-clause-front : goal.returns-clause-front
returns-clause-front c = λ lane answer n m given old new le right l. right_front lane answer m given right n old new le l

pub returns-clause-all : goal.returns-clause-all
returns-clause-all c = λ lane answer n given old new right l. right_all lane answer n given right old new l
