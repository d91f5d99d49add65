-- The commands of a script, or its first refusal.
use Rattle.std.specs.Prelude.{◌≢◌, ℕ, if◌then◌else◌, nat_le, List, [], ◌∷◌, ◌++◌, length, Option, Some, None, Result, Ok, Err, IfErr}
use Rattle.std.specs.List.{list_any, list_all}
use Rattle.app_api.specs.declared.registration.Reg.{Reg}
use Rattle.forest_versions.specs.declared.refusal.Refusal.{Refusal}
use Rattle.forest_versions.specs.declared.refusal.Refusal.TheVariants.{Duplicate as IsThere, NoSuchNumber as IsMissing, TooDeep as IsTooDeep, WrongHook}
use Rattle.forest_versions.specs.Lawful.{refusal}
use Rattle.forest_versions.specs.State.{control}
use Rattle.control_script.specs.declared.error.ScriptError.{ScriptError}
use Rattle.control_script.specs.declared.error.ScriptError.TheVariants.{Syntax, Duplicate, NoSuchNumber, TooDeep, TooMany, StampOrder, NoMemory}
use Rattle.control_script.specs.declared.stamped.Stamped.{Stamped}
use Rattle.control_script.specs.Grammar.{line_place, line_from}
use Rattle.control_script.specs.Order.{commands_of, is_later}
use Rattle.control_script.specs.Lines.{lines, without_return, is_skipped, is_text, next_line}
use Rattle.control_script.specs.Words.{words}

-- the command of line n, or why it is none
abbrev pub said : ℕ → List ℕ → Result Stamped ScriptError
said n line = if list_all is_text line then line_from n (words line) line_place else Err (Syntax n)

-- why a command can't be given where it stands, as the line's refusal
abbrev pub error_of : Refusal → ℕ → ScriptError
error_of IsThere n = Duplicate n
error_of IsMissing n = NoSuchNumber n
error_of IsTooDeep n = TooDeep n
error_of WrongHook n = Syntax n

abbrev pub joined : ℕ → List Stamped → Stamped → Option Refusal → Result (List Stamped) ScriptError
joined n before s None = Ok (before ++ s ∷ [])
joined n before s (Some r) = Err (error_of r n)

-- the command of line n behind those before it, in the state that these leave
abbrev pub admitted : List Reg → ℕ → List Stamped → Stamped → Result (List Stamped) ScriptError
admitted presets n before s =
    if nat_le 4096 (length before) then Err (TooMany n) else
    if list_any (λ b. is_later b.stamp s.stamp) before then Err (StampOrder n) else
    joined n before s (refusal (control presets (commands_of before)) s.command)

-- goes on with what was read, unless that was refused
abbrev pub unless_refused : {A : Type 0} → (A → Result (List Stamped) ScriptError) → Result A ScriptError → Result (List Stamped) ScriptError
unless_refused k (Ok a) = k a
unless_refused k (Err e) = Err e

-- line n behind the commands of the lines before it
abbrev pub line_read : List Reg → ℕ → List Stamped → List ℕ → Result (List Stamped) ScriptError
line_read presets n before line = if is_skipped line then Ok before else unless_refused (admitted presets n before) (said n line)

-- lines from number n on
abbrev pub lines_read : List Reg → ℕ → List (List ℕ) → List Stamped → Result (List Stamped) ScriptError
lines_read presets n [] before = Ok before
lines_read presets n (l ∷ ls) before = unless_refused (lines_read presets (next_line n) ls) (line_read presets n before (without_return l))

-- true of the refusal that is told, where it isn't want of memory
abbrev pub IfRefused : {T : Type 0} → Result T ScriptError → (ScriptError → Type 0) → Type 0
IfRefused result IsSo = IfErr result (λ e. e ≢ NoMemory → IsSo e)

-- the script that a text is
unfoldable pub script : List ℕ → List Reg → Result (List Stamped) ScriptError
script text presets = lines_read presets 1 (lines text) []
