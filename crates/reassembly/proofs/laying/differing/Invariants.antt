use Rattle.std.proofs.Common.{◌≡◌}
use Rattle.reassembly.specs.Laying.{differing_of}
use Rattle.reassembly.proofs.laying.differing.Given as goal

abbrev pub invariant-loop-i : goal.invariant-loop-i
invariant-loop-i l = l.count ≡ differing_of l.kept l.segment l.i
