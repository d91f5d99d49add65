use Rattle.lane_core.proofs.Commands.{tree_on, list_on}
use Rattle.lane_core.proofs.Standing.{taken_by, never_fewer}
use Rattle.lane_core.proofs.records.give_to.Goals as goal

pub returns-clause-taken : goal.returns-clause-taken
returns-clause-taken g c =
    taken_by c.apply-given.result c.args.master.now c.apply-given.new.self c.args.c.now c.apply-given.ensures.stands c.apply-given.ensures.now c.apply-given.ensures.version

pub returns-clause-trees : goal.returns-clause-trees
returns-clause-trees g c =
    let m = c.args.master.now in
    let after = c.apply-given.new.self in
    let e = c.apply-given.ensures in
    let stay = c.trees_stay.ensures in
    record {
      first = record { answered = e.answered; tree = e.forest };
      kept = e.stored.kept;
      later = never_fewer c.apply-given.result m after e.version e.unchanged;
      trees = tree_on m after c.tells_each_version.ensures c.tells_the_present.ensures (λ v s low tells. e.earlier v s low tells) c.defs.result.now c.defs.ensures stay.forest stay.list;
      lists = list_on m after c.tells_each_version.ensures c.tells_the_present.ensures (λ v s low tells. e.earlier v s low tells) c.defs.result.now c.defs.ensures stay.forest stay.list;
    }
