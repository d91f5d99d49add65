use Rattle.shared_forest.specs.Listing.{listing}
use Rattle.event_trees.proofs.Hears.{one_hearer, no_hearer}
use Rattle.event_trees.proofs.laws.one_hearer_is_called.Goals as goal

pub returns-clause-one : goal.returns-clause-one
returns-clause-one c = λ defs list hook event number forest are root is facts. one_hearer defs list hook event number (listing c.args.tree.now) forest are root is facts

pub returns-clause-nobody : goal.returns-clause-nobody
returns-clause-nobody c = λ defs list hook event forest is facts. no_hearer defs list hook event (listing c.args.tree.now) forest is facts
