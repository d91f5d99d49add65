use Rattle.std.proofs.Common.{◌≡◌, ℕ, ◌<◌, length, get_or, []}
use Rattle.app_api.specs.Reg.{reg_of}
use Rattle.forest_versions.specs.Past.{never}
use Rattle.forest_versions.proofs.past.first_regs.Given as goal

abbrev pub invariant-loop-number : goal.invariant-loop-number
invariant-loop-number l = (length l.lines.items ≡ l.number) × ((k : ℕ) → k < l.number → get_or l.lines.items k never ≡ record { first = reg_of l.regs k; steps = [] })
