-- The words after the program's name: which of them are accepted, and what they choose.
use Rattle.std.specs.Prelude.{◌≡◌, ℕ, Bool, true, false, not, ◌&&◌, ◌==◌, if◌then◌else◌, nat_le, List, [], ◌∷◌, ◌++◌, map, length, find, codes, Option, Some, None, option_map, option_and_then, unwrap_or, Result, IfErr, String, string_bytes}
use Rattle.std.specs.List.{list_all, list_any, before_first, after_first}
use Rattle.std.specs.Option.{option_map_or}
use Rattle.std.specs.Borrow.{Bor}
use Rattle.std.specs.Str.{bytes_eq}
use Rattle.number_text.specs.Numbers.{number_between}
use Rattle.applications.specs.Apps.{apps, named_in}
use Rattle.words.specs.Offers.{emits}
use Rattle.applications.specs.declared.apps.AppKind.{AppKind}
use Rattle.applications.specs.declared.apps.AppKind.TheVariants.{Log}
use Rattle.words.specs.declared.settings.Emit.{Emit}
use Rattle.words.specs.declared.settings.Emit.TheVariants.{Report, Summary}
use Rattle.words.specs.declared.settings.Settings.{Settings}
use Rattle.words.specs.declared.settings.WordsError.{WordsError}
use Rattle.words.specs.declared.settings.WordsError.TheVariants.{Usage}

-- ---- the words as items

-- an option's name, with its value
pub record Item : Type 0 where
  pub name : List ℕ
  pub value : List ℕ

-- what stands behind a front
abbrev pub behind : List ℕ → List ℕ → Option (List ℕ)
behind [] text = Some text
behind (c ∷ cs) [] = None
behind (c ∷ cs) (b ∷ bs) = if b == c then behind cs bs else None

abbrev pub is_equals : ℕ → Bool
is_equals b = b == 61

-- a name, and its value where one stands behind the first `=`
abbrev pub name_and_value : List ℕ → List ℕ × Option (List ℕ)
name_and_value text = (before_first is_equals text, if list_any is_equals text then Some (after_first is_equals text) else None)

-- `--name` or `--name=value`
abbrev pub option_of : List ℕ → Option (List ℕ × Option (List ℕ))
option_of word = option_map name_and_value (behind (codes "--") word)

abbrev pub with_item : List ℕ → List ℕ → Option (List Item) → Option (List Item)
with_item n v = option_map (λ items. record { name = n; value = v } ∷ items)

-- the items from an option on: those further on, with one more where the option has its value, or those
-- of the words where its name awaits its value
abbrev pub begun : Option (List ℕ × Option (List ℕ)) → Option (List Item) → (List ℕ → Option (List Item)) → Option (List Item)
begun option further awaits = option_and_then (λ p. unwrap_or (option_map (λ v. with_item p.0 v further) p.1) (awaits p.0)) option

-- the items of the words, where a name may wait for its value
abbrev pub items_from : Option (List ℕ) → List (List ℕ) → Option (List Item)
items_from None [] = Some []
items_from (Some name) [] = None
items_from None (w ∷ ws) = begun (option_of w) (items_from None ws) (λ name. items_from (Some name) ws)
items_from (Some name) (w ∷ ws) = with_item name w (items_from None ws)

-- ---- which items are accepted

-- the options' names
abbrev pub names : List (List ℕ)
names = codes "app" ∷ codes "workers" ∷ codes "script" ∷ codes "emit" ∷ codes "make" ∷ []

abbrev pub has_name : List (List ℕ) → List ℕ → Bool
has_name ns name = list_any (λ n. bytes_eq n name) ns

abbrev pub names_of : List Item → List (List ℕ)
names_of = map (λ i. i.name)

-- no name stands twice, nor among those before
abbrev pub differ : List (List ℕ) → List (List ℕ) → Bool
differ before [] = true
differ before (n ∷ ns) = not (has_name before n) && differ (before ++ n ∷ []) ns

-- not empty, and begins with no dash
abbrev pub is_value : List ℕ → Bool
is_value [] = false
is_value (b ∷ bs) = not (b == 45)

-- each name is an option's, no name stands twice, and each value is one
abbrev pub are_options : List Item → Bool
are_options items = list_all (λ i. has_name names i.name) items && (differ [] (names_of items) && list_all (λ i. is_value i.value) items)

-- ---- what the values choose

-- the value of a name, where an item has it
abbrev pub value_of : List Item → List ℕ → Option (List ℕ)
value_of items name = option_map (λ i. i.value) (find (λ i. bytes_eq i.name name) items)

abbrev pub app_of : Option (List ℕ) → Option AppKind
app_of text = option_map_or (named_in apps) text (Some Log)

-- 1 to 16
abbrev pub workers_of : Option (List ℕ) → Option ℕ
workers_of text = option_map_or (number_between 1 16) text (Some 1)

-- a script's name has at most 255 bytes
abbrev pub script_of : Option (List ℕ) → Option (Option (List ℕ))
script_of text = option_map_or (λ name. if nat_le (length name) 255 then Some (Some name) else None) text (Some None)

-- `--make` writes a summary, and excludes `--emit`
abbrev pub emit_of : Option (List ℕ) → Option (List ℕ) → Option Emit
emit_of emit None = option_map_or (named_in emits) emit (Some Report)
emit_of None (Some made) = Some Summary
emit_of (Some emit) (Some made) = None

-- 1 to 100,000 connections of a made capture
abbrev pub make_of : Option (List ℕ) → Option (Option ℕ)
make_of text = option_map_or (λ number. option_map Some (number_between 1 100000 number)) text (Some None)

-- the settings, where each value makes a choice
abbrev pub settings_of : (List ℕ → Option (List ℕ)) → Option Settings
settings_of look =
    option_and_then (λ app. option_and_then (λ workers. option_and_then (λ script. option_and_then (λ emit. option_map (λ make. record {
      app = app;
      workers = workers;
      script = script;
      emit = emit;
      make = make;
    }) (make_of (look (codes "make")))) (emit_of (look (codes "emit")) (look (codes "make")))) (script_of (look (codes "script")))) (workers_of (look (codes "workers")))) (app_of (look (codes "app")))

abbrev pub accepted : List Item → Option Settings
accepted items = if are_options items then settings_of (value_of items) else None

-- the settings that the words choose, where they are accepted
unfoldable pub words_settings : List (List ℕ) → Option Settings
words_settings words = option_and_then accepted (items_from None words)

-- the same of words as they are given
abbrev pub chosen_by : {Z : Type 0} → List (String Z) → Option Settings
chosen_by words = words_settings (map string_bytes words)

-- `Usage` is told only where nothing is chosen
abbrev pub UsageMeansNone : {T C : Type 0} → Result T WordsError → Option C → Type 0
UsageMeansNone result choice = IfErr result (λ e. e ≡ Usage → choice ≡ None)

-- the text that is lent, where one is
abbrev pub given : Option (Bor (List ℕ)) → Option (List ℕ)
given text = option_map (λ s. s.now) text
