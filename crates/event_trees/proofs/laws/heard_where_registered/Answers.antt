use Rattle.shared_forest.specs.Listing.{listing}
use Rattle.event_trees.proofs.Hears.{heard-forest, unheard-fires}
use Rattle.event_trees.proofs.laws.heard_where_registered.Goals as goal

pub returns-clause-heard : goal.returns-clause-heard
returns-clause-heard c = λ defs list hook event forest. heard-forest defs list hook event (listing c.args.tree.now) forest

pub returns-clause-unheard : goal.returns-clause-unheard
returns-clause-unheard c = λ defs list hook event forest is facts. unheard-fires defs list hook event (listing c.args.tree.now) forest is facts
