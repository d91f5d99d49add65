use Rattle.std.proofs.lemmas.Bool.Decides.{same_from_decides}
use Rattle.shared_forest.specs.KeyLaws.{same_tree-Decides}
use Rattle.shared_forest.proofs.key.TreePartialEq.eq.Goals as goal

pub returns : goal.returns
returns c = same_from_decides _ _ c.is_same.ensures (same_tree-Decides c.args.self.now c.args.other.now)
