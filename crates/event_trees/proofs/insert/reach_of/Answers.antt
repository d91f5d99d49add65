use Rattle.std.proofs.Common.{subst, List, arith}
use Rattle.shared_forest.specs.declared.node.Node.{Node}
use Rattle.event_trees.specs.Insert.{IsReach, last_path}
use Rattle.std.proofs.Common.{take}
use Rattle.event_trees.proofs.Reaching.{reaching-near, reaching-within, reaching-next, reach-here}
use Rattle.event_trees.proofs.insert.reach_of.Goals as goal

pub next_depth-requires-clause-within : goal.next_depth-requires-clause-within
next_depth-requires-clause-within c = reaching-within c.nodes-nodes.result.now c.args.path.now c.loop-i.i c.loop-i.depth c.loop-i.invariant

pub returns-in-None : goal.returns-in-None
returns-in-None c =
    subst (λ (l : List Node). IsReach l c.args.path.now c.loop-i.i c.loop-i.depth) c.nodes-nodes.ensures.nodes
    (reach-here c.nodes-nodes.result.now c.args.path.now c.loop-i.i c.loop-i.depth _ (omega arith) c.loop-i-test.true c.loop-i.invariant
    (c.in-None.ensures.none (last_path (take c.loop-i.i c.nodes-nodes.result.now)) c.loop-i.invariant.up_to c.loop-i.invariant.shared))

pub loop-i-preserved : goal.loop-i-preserved
loop-i-preserved c =
    reaching-next c.nodes-nodes.result.now c.args.path.now c.loop-i.i c.loop-i.depth c.in-Some.next _ (omega arith) c.loop-i-test.true
    c.loop-i.invariant (c.in-Some.ensures.some (last_path (take c.loop-i.i c.nodes-nodes.result.now)) c.loop-i.invariant.up_to
    c.loop-i.invariant.shared (reaching-near c.nodes-nodes.result.now c.args.path.now c.loop-i.i c.loop-i.depth _ c.loop-i-test.true c.loop-i.invariant))
