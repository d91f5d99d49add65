-- The script of a run: its text, and the commands that it comes to.
use Rattle.std.specs.Prelude.{ℕ, List, length, nat_lt, if◌then◌else◌, Result, Err}
use Rattle.std.specs.Result.{result_map_both}
use Rattle.control_script.specs.declared.stamped.Stamped.{Stamped}
use Rattle.control_script.specs.Script.{script}
use Rattle.app_api.specs.App.{Meaning}
use Rattle.mos_run.specs.declared.refusal.RunError.{RunError}
use Rattle.mos_run.specs.declared.refusal.RunError.TheVariants.{ScriptTooLong}
use Rattle.mos_run.specs.Refusal.{script_refusal}

-- the commands of a script's text, or why it has none. A script has at most 262,144 bytes
abbrev pub commands_in : Meaning → List ℕ → Result (List Stamped) RunError
commands_in app text = if nat_lt 262144 (length text) then Err ScriptTooLong else result_map_both (λ commands. commands) script_refusal (script text app.presets)
