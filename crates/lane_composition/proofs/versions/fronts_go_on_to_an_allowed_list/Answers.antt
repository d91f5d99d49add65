use Rattle.lane_composition.proofs.Composed.{continued, ceilings_allowed}
use Rattle.lane_composition.proofs.versions.fronts_go_on_to_an_allowed_list.Goals as goal

pub returns-clause-list : goal.returns-clause-list
returns-clause-list c = λ least most endings lane packets parts rest between rises numbered are stamped. continued least most between rises endings lane packets numbered parts rest are stamped

pub returns-clause-ceilings : goal.returns-clause-ceilings
returns-clause-ceilings c = λ least most endings lane packets between rises numbered. ceilings_allowed least most between rises endings lane packets numbered
