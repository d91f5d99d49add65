use Rattle.std.proofs.Common.{◌≤◌, ◌<◌, ◌-◌, take, drop}
use Rattle.event_trees.specs.Remove.{IsBare, IsRun}
use Rattle.event_trees.proofs.remove.first_bare.Given as goal

abbrev pub invariant-loop-keep : goal.invariant-loop-keep
invariant-loop-keep l = record {
  low : 1 ≤ l.keep;
  high : l.keep < l.end;
  bare : IsBare (take (l.end - l.keep) (drop l.keep l.nodes));
  run : IsRun (take (l.end - l.keep) (drop l.keep l.nodes));
}

abbrev pub decreases-loop-keep : goal.decreases-loop-keep
decreases-loop-keep l = l.keep
