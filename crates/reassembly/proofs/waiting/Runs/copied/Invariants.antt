use Rattle.std.proofs.Common.{◌≡◌, ◌++◌, map}
use Rattle.reassembly.specs.Waiting.{run_of, begun_between}
use Rattle.reassembly.proofs.waiting.Runs.copied.Given as goal

abbrev pub invariant-loop-start : goal.invariant-loop-start
invariant-loop-start l = l.met.items ++ map run_of l.start-iterator ≡ begun_between l.self l.from l.high
