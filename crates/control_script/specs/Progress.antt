-- Only for proofs. What stands between two lines.
use Rattle.std.specs.Prelude.{◌≡◌, IsTrue, List}
use Rattle.app_api.specs.declared.registration.Reg.{Reg}
use Rattle.forest_versions.specs.Lawful.{are_lawful}
use Rattle.forest_versions.specs.State.{start, control}
use Rattle.control_script.specs.declared.progress.Progress.{Progress}
use Rattle.control_script.specs.Order.{commands_of}

-- its state is that behind its commands, each lawful where it stands
pub record StandsOn (presets : List Reg) (p : Progress) : Type 0 where
  pub control : p.control ≡ control presets (commands_of p.script)
  pub lawful : IsTrue (are_lawful (start presets) (commands_of p.script))

-- true of the presets on which it stands
abbrev pub OnPresetsOf : Progress → (List Reg → Type 0) → Type 0
OnPresetsOf p IsSo = (presets : List Reg) → StandsOn presets p → IsSo presets
