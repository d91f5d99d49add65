use Rattle.event_trees.proofs.Later.{earlier-defs, earlier-stays, event-stays, private-stays, canon-stays, fires-stay, edited-stays}
use Rattle.event_trees.proofs.laws.later_events_change_nothing.Goals as goal

pub returns-clause-defs : goal.returns-clause-defs
returns-clause-defs c = λ earlier is. earlier-defs earlier c.args.defs.now is c.paths.ensures.defs

pub returns-clause-events : goal.returns-clause-events
returns-clause-events c = λ earlier event is h. event-stays earlier c.args.defs.now (earlier-stays earlier c.args.defs.now is c.paths.ensures.defs) event h

pub returns-clause-paths : goal.returns-clause-paths
returns-clause-paths c = λ earlier event is h. (earlier-stays earlier c.args.defs.now is c.paths.ensures.defs).paths event h

pub returns-clause-private : goal.returns-clause-private
returns-clause-private c = λ earlier list is p. private-stays earlier c.args.defs.now (earlier-stays earlier c.args.defs.now is c.paths.ensures.defs) list p

pub returns-clause-listing : goal.returns-clause-listing
returns-clause-listing c = λ earlier list is p. canon-stays earlier c.args.defs.now (earlier-stays earlier c.args.defs.now is c.paths.ensures.defs) list p

pub returns-clause-fires : goal.returns-clause-fires
returns-clause-fires c = λ earlier list is p facts hook event.
    fires-stay earlier c.args.defs.now (earlier-stays earlier c.args.defs.now is c.paths.ensures.defs) (earlier-defs earlier c.args.defs.now is c.paths.ensures.defs) facts hook event list p

pub returns-clause-edited : goal.returns-clause-edited
returns-clause-edited c = λ earlier list is p r on h. edited-stays earlier c.args.defs.now (earlier-stays earlier c.args.defs.now is c.paths.ensures.defs) list r on p h
