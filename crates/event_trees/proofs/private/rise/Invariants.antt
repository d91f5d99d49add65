use Rattle.std.proofs.Common.{◌≡◌, ℕ, ◌+◌, ◌<◌, ◌≤◌, get_or}
use Rattle.std.specs.declared.cmp.Ordering.TheVariants.{Less}
use Rattle.app_api.specs.declared.registration.Reg.{Reg}
use Rattle.event_trees.specs.Private.{reg_cmp}
use Rattle.event_trees.proofs.private.rise.Given as goal

abbrev pub invariant-loop-i : goal.invariant-loop-i
invariant-loop-i l = (1 ≤ l.i) × ((k : ℕ) (d : Reg) → k + 1 < l.i → reg_cmp l.defs (get_or l.list k d) (get_or l.list (k + 1) d) ≡ Less)
