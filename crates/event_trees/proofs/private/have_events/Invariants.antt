use Rattle.std.proofs.Common.{take}
use Rattle.std.specs.Prelude.{IsTrue}
use Rattle.std.specs.List.{All}
use Rattle.event_trees.specs.Defs.{is_event}
use Rattle.event_trees.proofs.private.have_events.Given as goal

abbrev pub invariant-loop-reg : goal.invariant-loop-reg
invariant-loop-reg l = All (λ r. IsTrue (is_event l.defs r.event)) (take l.reg-index l.list)
