use Rattle.std.proofs.Common.{drop, eqb}
use Rattle.std.specs.Prelude.{◌↔◌}
use Rattle.std.specs.List.{IsDistinct}
use Rattle.event_trees.specs.Private.{numbers_of}
use Rattle.event_trees.proofs.private.are_distinct.Given as goal

abbrev pub invariant-loop-i : goal.invariant-loop-i
invariant-loop-i l = IsDistinct eqb (numbers_of (drop l.i l.list)) ↔ IsDistinct eqb (numbers_of l.list)
