-- The script of a text: where none is named it has no commands, and its commands are in order.
use Rattle.std.proofs.Common.{◌≡◌, ◌≢◌, ℕ, Bool, true, false, List, [], ◌∷◌, ◌++◌, length, Option, Some, None, Result, Ok, Err, refl, ap, subst, ◌∙◌}
use Rattle.std.specs.Prelude.{nat_le, nat_lt, if◌then◌else◌}
use Rattle.std.specs.Result.{result_map_both}
use Rattle.std.specs.List.{list_any}
use Rattle.app_api.specs.declared.registration.Reg.{Reg}
use Rattle.forest_versions.specs.declared.refusal.Refusal.{Refusal}
use Rattle.forest_versions.specs.Lawful.{refusal}
use Rattle.forest_versions.specs.State.{control}
use Rattle.control_script.specs.declared.error.ScriptError.{ScriptError}
use Rattle.control_script.specs.declared.error.ScriptError.TheVariants as Text
use Rattle.control_script.specs.declared.stamped.Stamped.{Stamped}
use Rattle.control_script.specs.Lines.{lines, without_return, is_skipped, next_line}
use Rattle.control_script.specs.Order.{commands_of, is_later, are_in_order}
use Rattle.control_script.specs.Script.{said, joined, admitted, unless_refused, line_read, lines_read, script}
use Rattle.control_script.proofs.Marks.{in_order-more}
use Rattle.app_api.specs.App.{Meaning}
use Rattle.mos_run.specs.declared.refusal.RunError.TheVariants as Run
use Rattle.mos_run.specs.Refusal.{script_refusal}
use Rattle.mos_run.specs.Script.{commands_in}

-- no text has no commands
empty_script : (presets : List Reg) → script [] presets ≡ Ok []
unfolding script
empty_script presets = refl

not_both : {T E : Type 0} (r : Result T E) (x : T) (e : E) → r ≡ Ok x → r ≡ Err e → ⊥
not_both r x e ok err = cc

-- so it isn't refused
pub never_refused : (text : List ℕ) (presets : List Reg) (e : ScriptError) → text ≡ [] → (e ≢ Text.NoMemory → script text presets ≡ Err e) → script_refusal e ≡ Run.NoMemory
never_refused text presets Text.NoMemory none is = refl
never_refused text presets (Text.Syntax line) none is = absurd (not_both (script text presets) [] _ (ap (λ t. script t presets) none ∙ empty_script presets) (is (λ same. cc)))
never_refused text presets (Text.UnknownName line) none is = absurd (not_both (script text presets) [] _ (ap (λ t. script t presets) none ∙ empty_script presets) (is (λ same. cc)))
never_refused text presets (Text.Duplicate line) none is = absurd (not_both (script text presets) [] _ (ap (λ t. script t presets) none ∙ empty_script presets) (is (λ same. cc)))
never_refused text presets (Text.NoSuchNumber line) none is = absurd (not_both (script text presets) [] _ (ap (λ t. script t presets) none ∙ empty_script presets) (is (λ same. cc)))
never_refused text presets (Text.TooDeep line) none is = absurd (not_both (script text presets) [] _ (ap (λ t. script t presets) none ∙ empty_script presets) (is (λ same. cc)))
never_refused text presets (Text.TooMany line) none is = absurd (not_both (script text presets) [] _ (ap (λ t. script t presets) none ∙ empty_script presets) (is (λ same. cc)))
never_refused text presets (Text.StampOrder line) none is = absurd (not_both (script text presets) [] _ (ap (λ t. script t presets) none ∙ empty_script presets) (is (λ same. cc)))

-- ---- the order of a script's commands

admitted-by : (n : ℕ) (before after : List Stamped) (s : Stamped) (full late : Bool) (fault : Option Refusal) → (late ≡ false → are_in_order (before ++ s ∷ []) ≡ true)
    → (if full then Err (Text.TooMany n) else if late then Err (Text.StampOrder n) else joined n before s fault) ≡ Ok after → are_in_order after ≡ true
admitted-by n before after s true late fault more is = absurd (cc)
admitted-by n before after s false true fault more is = absurd (cc)
admitted-by n before after s false false None more is = let same : before ++ s ∷ [] ≡ after = cc in subst (λ l. are_in_order l ≡ true) same (more refl)
admitted-by n before after s false false (Some r) more is = absurd (cc)

line-by : (presets : List Reg) (n : ℕ) (before after : List Stamped) (skipped : Bool) (said : Result Stamped ScriptError) → are_in_order before ≡ true
    → (if skipped then Ok before else unless_refused (admitted presets n before) said) ≡ Ok after → are_in_order after ≡ true
line-by presets n before after true said ordered is = let same : before ≡ after = cc in subst (λ l. are_in_order l ≡ true) same ordered
line-by presets n before after false (Ok s) ordered is =
    admitted-by n before after s (nat_le 4096 (length before)) (list_any (λ b. is_later b.stamp s.stamp) before) (refusal (control presets (commands_of before)) s.command)
    (in_order-more before s ordered) is
line-by presets n before after false (Err e) ordered is = absurd (cc)

lines-order : (presets : List Reg) (n : ℕ) (ls : List (List ℕ)) (before after : List Stamped) → are_in_order before ≡ true → lines_read presets n ls before ≡ Ok after → are_in_order after ≡ true
lines-order presets n [] before after ordered is = let same : before ≡ after = cc in subst (λ l. are_in_order l ≡ true) same ordered
lines-order presets n (l ∷ ls) before after ordered is =
    by (λ mid first rest. lines-order presets (next_line n) ls mid after first rest) (line_read presets n before (without_return l)) refl is
  where
    by : ((mid : List Stamped) → are_in_order mid ≡ true → lines_read presets (next_line n) ls mid ≡ Ok after → are_in_order after ≡ true) → (r : Result (List Stamped) ScriptError)
        → line_read presets n before (without_return l) ≡ r → unless_refused (lines_read presets (next_line n) ls) r ≡ Ok after → are_in_order after ≡ true
    by more (Ok mid) here rest = more mid (line-by presets n before mid (is_skipped (without_return l)) (said n (without_return l)) ordered here) rest
    by more (Err e) here rest = absurd (cc)

-- the commands of an accepted text
pub script_order : (text : List ℕ) (presets : List Reg) (commands : List Stamped) → script text presets ≡ Ok commands → are_in_order commands ≡ true
unfolding script
script_order text presets commands is = lines-order presets 1 (lines text) [] commands refl is

-- and of one that may be too long
pub commands_order : (app : Meaning) (text : List ℕ) (commands : List Stamped) → commands_in app text ≡ Ok commands → are_in_order commands ≡ true
commands_order app text commands is = by (nat_lt 262144 (length text)) (script text app.presets) refl is
  where
    by : (long : Bool) (r : Result (List Stamped) ScriptError) → script text app.presets ≡ r
        → (if long then Err Run.ScriptTooLong else result_map_both (λ commands. commands) script_refusal r) ≡ Ok commands → are_in_order commands ≡ true
    by true r here comes = absurd (cc)
    by false (Ok found) here comes =
        let same : found ≡ commands = cc in
        script_order text app.presets commands (here ∙ ap (λ l. Ok l) same)
    by false (Err e) here comes = absurd (cc)
