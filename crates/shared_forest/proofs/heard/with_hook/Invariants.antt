use Rattle.std.proofs.Common.{◌≡◌, drop}
use Rattle.app_api.specs.Hearers.{joined}
use Rattle.shared_forest.specs.Heard.{with_hook}
use Rattle.shared_forest.proofs.heard.with_hook.Given as goal

abbrev pub invariant-loop-slot : goal.invariant-loop-slot
invariant-loop-slot l = joined l.all (with_hook l.hook (drop l.slot-index l.slots)) ≡ with_hook l.hook l.slots
