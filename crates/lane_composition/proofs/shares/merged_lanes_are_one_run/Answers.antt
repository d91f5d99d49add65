use Rattle.std.proofs.Common.{◌∙◌, sym, ap, map}
use Rattle.lane_composition.proofs.Reported.{lists_of_lanes, merged_is}
use Rattle.lane_composition.proofs.shares.merged_lanes_are_one_run.Goals as goal

pub returns-clause-mergeable : goal.returns-clause-mergeable
returns-clause-mergeable c = λ endings lane packets parts vs shown lists runs numbered same are. lists_of_lanes shown same endings lane packets vs numbered lists
    (λ l. are l ∙ ap (map shown) (sym (runs.parts_are l)))

pub returns-clause-merged : goal.returns-clause-merged
returns-clause-merged c = λ endings lane packets parts vs shown lists merged runs numbered same are is. merged_is shown same endings lane packets vs numbered lists
    (λ l. are l ∙ ap (map shown) (sym (runs.parts_are l))) merged is
