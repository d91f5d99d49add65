use Rattle.event_trees.proofs.Reaching.{Reaching}
use Rattle.event_trees.proofs.insert.reach_of.Given as goal

abbrev pub invariant-loop-i : goal.invariant-loop-i
invariant-loop-i l = Reaching l.nodes l.path l.i l.depth
