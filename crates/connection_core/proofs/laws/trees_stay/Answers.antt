use Rattle.connection_core.proofs.FirstTrees.{forest_stays, list_stays}
use Rattle.connection_core.proofs.laws.trees_stay.Goals as goal

pub returns-clause-forest : goal.returns-clause-forest
returns-clause-forest c = λ earlier at now tree more same forest.
    let later = c.later_events_change_nothing.ensures in
    forest_stays earlier c.args.defs.now at now tree (λ list. later.private earlier list more) (λ list. later.listing earlier list more) same forest

pub returns-clause-list : goal.returns-clause-list
returns-clause-list c = λ earlier at now tree same forest. list_stays earlier at now tree same forest
