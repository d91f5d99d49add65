use Rattle.std.proofs.Common.{arith}
use Rattle.event_trees.proofs.Reaching.{depth-past, depth-on, depth-off, later-whole, later-event}
use Rattle.event_trees.proofs.insert.next_depth.Goals as goal

pub returns-then-above-depth-clause-some : goal.returns-then-above-depth-clause-some
returns-then-above-depth-clause-some c = depth-past c.args.node c.args.path.now c.args.depth (omega arith)

pub returns-then-above-path-clause-none : goal.returns-then-above-path-clause-none
returns-then-above-path-clause-none c = later-whole c.args.node c.args.path.now c.args.depth (omega arith) (omega arith)

pub returns-then-event-node-clause-none : goal.returns-then-event-node-clause-none
returns-then-event-node-clause-none c = later-event c.args.node c.args.path.now c.args.depth (omega arith) (omega arith) c.if-event-node.true

pub returns-then-event-node-2-clause-some : goal.returns-then-event-node-2-clause-some
returns-then-event-node-2-clause-some c = depth-on c.args.node c.args.path.now c.args.depth (omega arith) (omega arith) c.if-event-node-2.true

pub returns-clause-some : goal.returns-clause-some
returns-clause-some c = depth-off c.args.node c.args.path.now c.args.depth (omega arith) (omega arith) (omega arith)
