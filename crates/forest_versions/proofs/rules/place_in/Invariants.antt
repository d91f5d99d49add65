use Rattle.std.proofs.Common.{◌≡◌, ◌++◌, take, drop}
use Rattle.forest_versions.specs.Rules.{put_rule}
use Rattle.forest_versions.proofs.rules.place_in.Given as goal

abbrev pub invariant-loop-i : goal.invariant-loop-i
invariant-loop-i l = put_rule l.rule l.rules ≡ take l.i l.rules ++ put_rule l.rule (drop l.i l.rules)
