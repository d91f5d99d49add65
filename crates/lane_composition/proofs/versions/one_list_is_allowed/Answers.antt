use Rattle.std.proofs.Common.{◌∙◌, sym, ap}
use Rattle.lane_composition.specs.Allowed.{versions_of}
use Rattle.lane_composition.proofs.Single.{list_of_allowed, records_of_allowed}
use Rattle.lane_composition.proofs.versions.one_list_is_allowed.Goals as goal

pub returns-clause-records : goal.returns-clause-records
returns-clause-records c = λ least most endings lane packets vs same allowed. records_of_allowed least most endings lane packets vs same allowed

pub returns-clause-list : goal.returns-clause-list
returns-clause-list c = λ least most endings lane packets vs same allowed. sym (list_of_allowed least most endings lane packets vs allowed)
    ∙ ap versions_of (records_of_allowed least most endings lane packets vs same allowed)
