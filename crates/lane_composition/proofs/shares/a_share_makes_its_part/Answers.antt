use Rattle.lane_composition.proofs.Composed.{share_records, share_verdicts, share_histories, share_at_end}
use Rattle.lane_composition.proofs.shares.a_share_makes_its_part.Goals as goal

pub returns-clause-records : goal.returns-clause-records
returns-clause-records c = λ endings lane l u v ps agree. share_records lane l u v ps agree endings

pub returns-clause-verdicts : goal.returns-clause-verdicts
returns-clause-verdicts c = λ endings judge lane l u v ps agree. share_verdicts lane l u v ps agree endings judge

pub returns-clause-histories : goal.returns-clause-histories
returns-clause-histories c = λ app control_at lane l u v ps agree. share_histories lane l u v ps agree app control_at

pub returns-clause-at_end : goal.returns-clause-at_end
returns-clause-at_end c = λ app control_at last lane l u v ps agree. share_at_end lane l u v ps agree app control_at last
