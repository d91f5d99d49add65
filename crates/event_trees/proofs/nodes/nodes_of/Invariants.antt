use Rattle.std.proofs.Common.{take, drop}
use Rattle.event_trees.specs.EventPath.{path_of}
use Rattle.event_trees.proofs.Rises.{Rises}
use Rattle.event_trees.specs.Build.{all_seen, seen_slots}
use Rattle.event_trees.proofs.Built.{Built}
use Rattle.event_trees.proofs.nodes.nodes_of.Given as goal

abbrev pub invariant-loop-i : goal.invariant-loop-i
invariant-loop-i l =
    Built (seen_slots l.regs) (take l.i (all_seen l.regs)) (path_of l.last) l.nodes.items × Rises (path_of l.last) (drop l.i (all_seen l.regs))
