use Rattle.lane_composition.proofs.Ended.{lists_of, is_joined}
use Rattle.lane_composition.proofs.ends.ends_of_lanes_are_one_end.Goals as goal

pub returns-clause-mergeable : goal.returns-clause-mergeable
returns-clause-mergeable c = λ keep app commands lane packets lanes vs ends one numbered are. lists_of keep app commands lane packets lanes vs one numbered ends are

pub returns-clause-joined : goal.returns-clause-joined
returns-clause-joined c = λ keep app commands lane packets lanes vs ends merged one numbered are is.
    is_joined keep app commands lane packets lanes vs one numbered ends are merged is
