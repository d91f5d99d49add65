use Rattle.std.proofs.Common.{◌≡◌, ◌++◌, take, drop}
use Rattle.event_trees.specs.Private.{put_reg}
use Rattle.event_trees.proofs.private.place_in.Given as goal

abbrev pub invariant-loop-i : goal.invariant-loop-i
invariant-loop-i l = put_reg l.defs l.reg l.list ≡ take l.i l.list ++ put_reg l.defs l.reg (drop l.i l.list)
