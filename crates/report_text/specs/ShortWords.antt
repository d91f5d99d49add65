-- Only for proofs. The word of a callback's line between the packet's place and the event.
use Rattle.std.specs.Prelude.{List, ℕ, ◌++◌, codes}
use Rattle.native_filters.specs.declared.facts.Hook.{Hook}
use Rattle.report_text.specs.Words.{hook_text}

-- a hook between blanks
abbrev pub hook_word : Hook → List ℕ
hook_word hook = codes " " ++ (hook_text hook ++ codes " ")
