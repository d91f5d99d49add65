use Rattle.std.proofs.Common.{◌≡◌, ◌++◌, take}
use Rattle.std.specs.Prelude.{string_bytes}
use Rattle.filter_lang.specs.Printed.{atom_text, steps_text}
use Rattle.filter_lang.proofs.printer.write_sum.Given as goal

abbrev pub invariant-loop-step : goal.invariant-loop-step
invariant-loop-step l = string_bytes l.out ≡ string_bytes l.fn.out ++ (atom_text l.sum.first ++ steps_text (take l.step-index l.step-items))
