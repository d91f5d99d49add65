use Rattle.std.proofs.Common.{◌≡◌, take}
use Rattle.event_trees.specs.Build.{seen_slots}
use Rattle.event_trees.proofs.nodes.slots_of.Given as goal

abbrev pub invariant-loop-reg : goal.invariant-loop-reg
invariant-loop-reg l = l.slots.items ≡ seen_slots (take l.reg-index l.regs)
