-- Not of the headline. The words of a program whose application is its own: no word names one.
use Rattle.std.specs.Prelude.{ℕ, List, ◌∷◌, codes, Option}
use Rattle.words.specs.Words.{words_settings}
use Rattle.words.specs.declared.settings.Settings.{Settings}

-- The settings that the words choose which are accepted behind `--app=log`. No option stands twice, so `--app` isn't among them.
abbrev pub own_settings : List (List ℕ) → Option Settings
own_settings words = words_settings (codes "--app=log" ∷ words)
