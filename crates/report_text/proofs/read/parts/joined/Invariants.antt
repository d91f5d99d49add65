use Rattle.std.proofs.Common.{◌≡◌, drop}
use Rattle.report_text.specs.ReadWords.{joined}
use Rattle.report_text.proofs.read.parts.joined.Given as goal

abbrev pub invariant-loop-group : goal.invariant-loop-group
invariant-loop-group l = joined 0 l.groups ≡ joined l.addr (drop l.group-index l.groups)
