-- The first refusal of a text, and what floors and ceilings leave in and out.
use Rattle.std.proofs.Common.{◌≡◌, ℕ, zero, suc, ◌+◌, ◌<◌, ◌≤◌, min, Bool, true, false, List, [], ◌∷◌, ◌++◌, length, Some, slice_get, refl, sym, ap, ◌∙◌, arith}
use Rattle.std.specs.Prelude.{Result, Ok, Err}
use Rattle.std.proofs.lemmas.Bool.{le-leb}
use Rattle.app_api.specs.declared.registration.Reg.{Reg}
use Rattle.forest_versions.specs.declared.command.Stamp.TheVariants.{At}
use Rattle.control_script.specs.declared.error.ScriptError.{ScriptError}
use Rattle.control_script.specs.declared.stamped.Stamped.{Stamped}
use Rattle.control_script.specs.Laws.{number_behind, IsFirstRefused, SeesWhatItMust}
use Rattle.control_script.specs.Lines.{lines, without_return, next_line}
use Rattle.control_script.specs.Script.{line_read, unless_refused, lines_read, script}
use Rattle.control_script.specs.Versions.{is_forced, is_barred, behind_one, floor, ceil}

-- the number of a line so many behind one
abbrev number_after : ℕ → ℕ → ℕ
number_after n zero = n
number_after n (suc k) = number_after (next_line n) k

number_after-is : (n k : ℕ) → n ≤ 4294967295 → number_after n k ≡ min (n + k) 4294967295
number_after-is n zero le = omega arith
number_after-is n (suc k) le =
    let more = number_after-is (min (n + 1) 4294967295) k (omega arith) in
    omega arith

record FirstRefused (presets : List Reg) (n : ℕ) (ls : List (List ℕ)) (acc : List Stamped) (e : ScriptError) : Type 0 where
  before : List (List ℕ)
  line : List ℕ
  after : List (List ℕ)
  commands : List Stamped
  whole : ls ≡ before ++ line ∷ after
  read : lines_read presets n before acc ≡ Ok commands
  refused : line_read presets (number_after n (length before)) commands (without_return line) ≡ Err e

at-line : (presets : List Reg) (n : ℕ) (l : List ℕ) (ls : List (List ℕ)) (acc : List Stamped) (e : ScriptError)
    (r : Result (List Stamped) ScriptError) → line_read presets n acc (without_return l) ≡ r
    → unless_refused (lines_read presets (next_line n) ls) r ≡ Err e → ((now : List Stamped) → lines_read presets (next_line n) ls now ≡ Err e
    → FirstRefused presets (next_line n) ls now e) → FirstRefused presets n (l ∷ ls) acc e
at-line presets n l ls acc e (Ok now) is h more =
    let found = more now h in
    record {
      before = l ∷ found.before;
      line = found.line;
      after = found.after;
      commands = found.commands;
      whole = ap (λ ms. l ∷ ms) found.whole;
      read = ap (unless_refused (lines_read presets (next_line n) found.before)) is ∙ found.read;
      refused = found.refused;
    }
at-line presets n l ls acc e (Err f) is h more =
    let same : f ≡ e = cc in
    record {
      before = [];
      line = l;
      after = ls;
      commands = acc;
      whole = refl;
      read = refl;
      refused = is ∙ ap Err same;
    }

first-refused : (presets : List Reg) (n : ℕ) (ls : List (List ℕ)) (acc : List Stamped) (e : ScriptError) → lines_read presets n ls acc ≡ Err e → FirstRefused presets n ls acc e
first-refused presets n [] acc e h = absurd (cc)
first-refused presets n (l ∷ ls) acc e h =
    at-line presets n l ls acc e (line_read presets n acc (without_return l)) refl h (λ now g. first-refused presets (next_line n) ls now e g)

pub first-refusal : (text : List ℕ) (presets : List Reg) (e : ScriptError) → script text presets ≡ Err e → IsFirstRefused presets text e
unfolding script
first-refusal text presets e h =
    let found = first-refused presets 1 (lines text) [] e h in
    let number : number_after 1 (length found.before) ≡ number_behind (length found.before) = number_after-is 1 (length found.before) (omega arith) ∙ ap (λ k. min k 4294967295) (omega arith) in
    record {
      before = found.before;
      line = found.line;
      after = found.after;
      commands = found.commands;
      whole = found.whole;
      read = found.read;
      refused = ap (λ k. line_read presets k found.commands (without_return found.line)) (sym number) ∙ found.refused;
    }

some-forced : (v : ℕ) → 0 < behind_one true v
some-forced zero = omega arith
some-forced (suc v) = omega arith

one-more : (b : Bool) (k v : ℕ) → k < v → suc k < behind_one b v
one-more b k zero lt = absurd (omega arith)
one-more b k (suc v) lt = omega arith

forced-below : (script : List Stamped) (n place : ℕ) (s : Stamped) → slice_get script place ≡ Some s → is_forced n s.stamp ≡ true → place < floor script n
forced-below [] n place s there forced = absurd (cc)
forced-below (t ∷ ts) n zero s there forced =
    let same : t ≡ s = cc in
    rw (same, forced) (some-forced (floor ts n))
forced-below (t ∷ ts) n (suc place) s there forced =
    one-more (is_forced n t.stamp) place (floor ts n) (forced-below ts n place s there forced)

ceil-more : (b : Bool) (n place : ℕ) (t : Stamped) (ts : List Stamped) → is_barred n t.stamp ≡ b → ceil ts n ≤ place → ceil (t ∷ ts) n ≤ suc place
ceil-more true n place t ts is le = rw is (omega arith)
ceil-more false n place t ts is le = rw is (omega arith)

barred-above : (script : List Stamped) (n place : ℕ) (s : Stamped) → slice_get script place ≡ Some s → is_barred n s.stamp ≡ true → ceil script n ≤ place
barred-above [] n place s there barred = absurd (cc)
barred-above (t ∷ ts) n zero s there barred =
    let same : t ≡ s = cc in
    rw (same, barred) (omega arith)
barred-above (t ∷ ts) n (suc place) s there barred =
    ceil-more (is_barred n t.stamp) n place t ts refl (barred-above ts n place s there barred)

pub sees : (script : List Stamped) (n : ℕ) → SeesWhatItMust script n
sees script n = record { forced = forced-below script n; barred = barred-above script n }

pub unstamped : (ss : List Stamped) (n place : ℕ) (s : Stamped) → slice_get ss place ≡ Some s → s.stamp ≡ At 0 → place < floor ss n
unstamped ss n place s there first = forced-below ss n place s there (rw first (le-leb 0 n (omega arith)))
