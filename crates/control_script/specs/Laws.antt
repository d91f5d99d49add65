-- Not of the headline. What the definitions of scripts say in other words.
use Rattle.std.specs.Prelude.{◌≡◌, ℕ, ◌+◌, ◌<◌, ◌≤◌, min, IsTrue, List, [], ◌∷◌, ◌++◌, length, Some, slice_get, Ok, Err}
use Rattle.app_api.specs.declared.registration.Reg.{Reg}
use Rattle.control_script.specs.declared.error.ScriptError.{ScriptError}
use Rattle.control_script.specs.declared.stamped.Stamped.{Stamped}
use Rattle.control_script.specs.Lines.{lines, without_return}
use Rattle.control_script.specs.Script.{line_read, lines_read}
use Rattle.control_script.specs.Versions.{is_forced, is_barred, floor, ceil}

-- the number of the line behind so many: from 1 on, and at most 2^32 - 1
abbrev pub number_behind : ℕ → ℕ
number_behind before = min (before + 1) 4294967295

-- the lines before one are read, and that one is refused behind their commands
pub record IsFirstRefused (presets : List Reg) (text : List ℕ) (e : ScriptError) : Type 0 where
  pub before : List (List ℕ)
  pub line : List ℕ
  pub after : List (List ℕ)
  pub commands : List Stamped
  pub whole : lines text ≡ before ++ line ∷ after
  pub read : lines_read presets 1 before [] ≡ Ok commands
  pub refused : line_read presets (number_behind (length before)) commands (without_return line) ≡ Err e

-- each command that packet n has to see stands before its floor, and each that it may not see behind its ceiling
pub record SeesWhatItMust (script : List Stamped) (n : ℕ) : Type 0 where
  pub forced : (place : ℕ) (s : Stamped) → slice_get script place ≡ Some s → IsTrue (is_forced n s.stamp) → place < floor script n
  pub barred : (place : ℕ) (s : Stamped) → slice_get script place ≡ Some s → IsTrue (is_barred n s.stamp) → ceil script n ≤ place
