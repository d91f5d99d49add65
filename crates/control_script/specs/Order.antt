-- Commands with their stamps.
use Rattle.std.specs.Prelude.{Bool, true, false, ◌&&◌, not, nat_lt, List, [], ◌∷◌, map}
use Rattle.std.specs.List.{list_all}
use Rattle.forest_versions.specs.declared.command.Command.{Command}
use Rattle.forest_versions.specs.declared.command.Stamp.{Stamp}
use Rattle.forest_versions.specs.declared.command.Stamp.TheVariants.{At}
use Rattle.control_script.specs.declared.stamped.Stamped.{Stamped}

abbrev pub commands_of : List Stamped → List Command
commands_of script = map (λ s. s.command) script

-- whether the first is `at k` and the second `at` with a lesser number
abbrev pub is_later : Stamp → Stamp → Bool
is_later (At k) (At n) = nat_lt n k
is_later _ _ = false

-- no `at k` stands behind an `at` with a greater k
abbrev pub are_in_order : List Stamped → Bool
are_in_order [] = true
are_in_order (s ∷ script) = list_all (λ t. not (is_later s.stamp t.stamp)) script && are_in_order script
