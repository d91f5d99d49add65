-- Only for proofs. What the code tests and reads once `clap` has read the words.
use Rattle.std.specs.Prelude.{ℕ, Bool, true, ◌&&◌, if◌then◌else◌, List, codes, Option, Some, None}
use Rattle.std.specs.List.{list_any}
use Rattle.std.specs.Str.{bytes_eq}
use Rattle.words.specs.Words.{is_value, settings_of}
use Rattle.words.specs.declared.settings.Settings.{Settings}

abbrev pub has_dashes : List (List ℕ) → Bool
has_dashes words = list_any (λ word. bytes_eq word (codes "--")) words

-- an option that was found has a value
abbrev pub passes : Option (List ℕ) → Bool
passes None = true
passes (Some text) = is_value text

abbrev pub all_pass : (List ℕ → Option (List ℕ)) → Bool
all_pass look = passes (look (codes "app")) && (passes (look (codes "workers")) && (passes (look (codes "script"))
    && (passes (look (codes "emit")) && passes (look (codes "make")))))

-- the settings of the values that were found
abbrev pub found_settings : (List ℕ → Option (List ℕ)) → Option Settings
found_settings look = if all_pass look then settings_of look else None
