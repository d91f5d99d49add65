use Rattle.std.proofs.Common.{◌≡◌, take}
use Rattle.event_trees.specs.Canon.{placed}
use Rattle.event_trees.specs.Build.{all_seen}
use Rattle.event_trees.proofs.placed.place_all.Given as goal

abbrev pub invariant-loop-reg : goal.invariant-loop-reg
invariant-loop-reg l = all_seen l.regs.items ≡ placed l.defs (take l.reg-index l.list)
