-- What the words may choose beside an application.
use Rattle.std.specs.Prelude.{ℕ, List, [], ◌∷◌, codes}
use Rattle.words.specs.declared.settings.Emit.{Emit}
use Rattle.words.specs.declared.settings.Emit.TheVariants.{Report, Forward}

-- what may be written, by name
abbrev pub emits : List (List ℕ × Emit)
emits = (codes "report", Report) ∷ (codes "forward", Forward) ∷ []
