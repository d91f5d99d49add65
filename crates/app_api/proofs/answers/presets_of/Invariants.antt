use Rattle.std.proofs.Common.{◌≡◌}
use Rattle.app_api.proofs.ByNumber.{front}
use Rattle.app_api.proofs.answers.presets_of.Given as goal

abbrev pub invariant-loop-number : goal.invariant-loop-number
invariant-loop-number g l = l.presets.items ≡ front l.number (g.A.App.meaning l.app).presets
