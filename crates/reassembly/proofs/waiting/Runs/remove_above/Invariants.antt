use Rattle.reassembly.specs.Waiting.{IsThinned}
use Rattle.reassembly.proofs.waiting.Runs.remove_above.Given as goal

abbrev pub invariant-loop-run : goal.invariant-loop-run
invariant-loop-run l = IsThinned l.fn.self.map l.self.map l.start l.met l.run-index
