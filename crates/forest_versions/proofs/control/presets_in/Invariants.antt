use Rattle.forest_versions.proofs.Presets.{Placing}
use Rattle.forest_versions.proofs.control.presets_in.Given as goal

abbrev pub invariant-loop-reg : goal.invariant-loop-reg
invariant-loop-reg l = Placing l.defs l.presets l.regs l.reg-index
