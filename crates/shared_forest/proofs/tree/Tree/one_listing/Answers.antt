use Rattle.shared_forest.proofs.OneListing.{one_listing}
use Rattle.shared_forest.proofs.tree.Tree.one_listing.Goals as goal

pub returns : goal.returns
returns c = λ e. one_listing c.args.self.now c.args.other.now c.nodes-nodes.ensures.tree c.nodes-others.ensures.tree e
