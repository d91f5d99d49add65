use Rattle.std.proofs.Common.{arith}
use Rattle.event_trees.proofs.RemoveTree.{bare-step}
use Rattle.event_trees.proofs.remove.first_bare.Goals as goal

pub loop-keep-preserved : goal.loop-keep-preserved
loop-keep-preserved c =
    let step = bare-step c.args.nodes.now c.args.end c.loop-keep.keep (record { event = 0; depth = 0; below = 0; first = 0; count = 0 }) (omega arith)
    c.loop-keep.invariant.high c.requires.within (omega arith) (omega arith) c.loop-keep.invariant.bare in
    record { low = omega arith; high = omega arith; bare = step.0; run = step.1 }
