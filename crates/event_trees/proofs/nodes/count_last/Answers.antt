use Rattle.event_trees.proofs.NodeSteps.{bumped-set}
use Rattle.event_trees.proofs.nodes.count_last.Goals as goal

pub returns : goal.returns
returns c = bumped-set c.args.nodes.now _ c.requires.some
