use Rattle.std.proofs.Common.{Bool, subst}
use Rattle.std.specs.List.Sorted.{IsStrictlySortedBy}
use Rattle.shared_forest.specs.Listing.{listing}
use Rattle.event_trees.specs.Build.{seen}
use Rattle.event_trees.specs.ReadOff.{read_off}
use Rattle.event_trees.specs.Edit.{placed_cmp, switched}
use Rattle.event_trees.proofs.EditLaw.{put-few}
use Rattle.event_trees.proofs.edits.tree_switched.Goals as goal

pub tree_with-requires-clause-order : goal.tree_with-requires-clause-order
tree_with-requires-clause-order c = subst (λ (b : Bool). IsStrictlySortedBy placed_cmp (switched (seen c.args.reg.now) b (read_off (listing c.args.tree.now)))) c.if-on.true c.requires.new_order

pub tree_with-requires-clause-few : goal.tree_with-requires-clause-few
tree_with-requires-clause-few c = put-few (seen c.args.reg.now) c.args.on (read_off (listing c.args.tree.now)) c.if-on.true c.requires.new_few

pub tree_without-requires-clause-there : goal.tree_without-requires-clause-there
tree_without-requires-clause-there c = c.requires.there c.if-on.false
