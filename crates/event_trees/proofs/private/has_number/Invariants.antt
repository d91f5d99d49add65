use Rattle.std.proofs.Common.{◌≡◌, drop, eqb}
use Rattle.std.specs.List.{list_any}
use Rattle.event_trees.specs.Private.{numbers_of}
use Rattle.event_trees.proofs.private.has_number.Given as goal

abbrev pub invariant-loop-reg : goal.invariant-loop-reg
invariant-loop-reg l = list_any (eqb l.number) (numbers_of l.list) ≡ list_any (eqb l.number) (numbers_of (drop l.reg-index l.list))
