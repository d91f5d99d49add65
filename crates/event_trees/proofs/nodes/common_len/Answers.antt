use Rattle.std.proofs.Common.{◌≡◌, drop, arith}
use Rattle.event_trees.specs.Build.{common}
use Rattle.event_trees.proofs.NodeSteps.{common-end}
use Rattle.event_trees.proofs.nodes.common_len.Goals as goal

pub returns-clause-common : goal.returns-clause-common
returns-clause-common c =
    let none : common (drop c.loop-i.i c.args.last.now) (drop c.loop-i.i c.args.path.now) ≡ 0 = common-end c.args.last.now c.args.path.now c.loop-i.i (omega arith) (omega arith) (λ h. omega arith) in
    omega arith
