-- What `clap` finds in all the words, against the definition.
use Rattle.std.proofs.Common.{◌≡◌, ◌∙◌, Bool, true, false, cond, ◌&&◌, ◌||◌, List, [], ◌∷◌, map, fold, codes, Option, Some, None, IfSome, inl, inr, subst, option_map, option_and_then, refl, sym, ap, ap₂}
use Rattle.std.specs.List.{list_all}
use Rattle.std.specs.Option.{is_some}
use Rattle.clap.specs.Walk.{Held, Row, Text, Walk, finished, first_of, idle, has_row, nothing_held, rows_of, settled, walk, with_default}
use Rattle.clap.specs.Matches.{first_value, found_of}
use Rattle.clap.specs.Values.{kind_of}
use Rattle.clap.specs.Kinds.{HasKind, Kinds, or_else}
use Rattle.clap.specs.Simple.{App, HasMatchesOf, entered, is_simple, matches_of}
use Rattle.clap.specs.Faults.{check_fault, defaults_fault, entered_fault, fault_of, is_simple_and_free, settle_fault, walk_fault}
use Rattle.clap.specs.declared.error.Error.{Error}
use Rattle.clap.specs.declared.error.kind.ErrorKind.TheVariants.{OutOfMemory}
use Rattle.clap.specs.declared.parser.matches.ArgMatches.{ArgMatches}
use Rattle.clap.specs.declared.parser.matches.Found.{Found}
use Rattle.clap.proofs.WalkLemmas.{first_value-rows}
use Rattle.words.specs.Command.{the_app}
use Rattle.words.specs.Found.{all_pass, found_settings, has_dashes, passes}
use Rattle.words.specs.Words.{Item, accepted, are_options, items_from, names, settings_of, value_of, words_settings}
use Rattle.words.specs.declared.settings.Settings.{Settings}
use Rattle.words.proofs.Names.{first_of-items, opt, row}
use Rattle.words.proofs.Items.{Good, by_values, have_values, through}
use Rattle.words.proofs.Turns.{end_of, ends, ends_by, held, stands, the_shape}
use Rattle.words.proofs.Lookups.{lookups}
use Rattle.words.proofs.Reading.{Reads, reading}

-- ---- the command has no subcommand, no default and no argument that is required

abbrev whole_app : App
whole_app = record { top = the_shape names; subs = [] }

pub simple : is_simple the_app ≡ true
simple = refl

pub simple_and_free : is_simple_and_free the_app ≡ true
simple_and_free = refl

no_default-at : (b : Bool) (rows : List Row) → cond b rows rows ≡ rows
no_default-at true rows = refl
no_default-at false rows = refl

no_default : (rows : List Row) (n : Text) → with_default rows (opt n) ≡ rows
no_default rows n = no_default-at (has_row n rows) rows

no_defaults : (rows : List Row) (ns : List Text) → fold with_default rows (map opt ns) ≡ rows
no_defaults rows [] = refl
no_defaults rows (n ∷ ns) = ap (λ rs. fold with_default rs (map opt ns)) (no_default rows n) ∙ no_defaults rows ns

or-true : (b : Bool) → (b || true) ≡ true
or-true true = refl
or-true false = refl

no_defaults_fault : (rows : List Row) (ns : List Text) → defaults_fault rows (map opt ns) ≡ []
unfolding defaults_fault
no_defaults_fault rows [] = refl
no_defaults_fault rows (n ∷ ns) = rw (or-true (has_row n rows)) (no_defaults_fault (with_default rows (opt n)) ns)

none_entered : (stop : Option (Text × List Text)) → entered whole_app stop ≡ None
none_entered None = refl
none_entered (Some p) = refl

none_entered-fault : (stop : Option (Text × List Text)) → entered_fault whole_app stop ≡ []
none_entered-fault None = refl
none_entered-fault (Some p) = refl

no_check : (rows : List Row) (b : Bool) → b ≡ false → check_fault (the_shape names) rows b ≡ []
no_check rows true e = absurd (cc)
no_check rows false e = refl

or_else-none : (ks : Kinds) → or_else ks [] ≡ ks
or_else-none [] = refl
or_else-none (k ∷ ks) = refl

four : (a below c d e : Kinds) → below ≡ [] → d ≡ [] → e ≡ [] → or_else a (or_else below (or_else c (or_else d e))) ≡ or_else a c
four a below c d e none none_d none_e = rw (none, none_d, none_e) (ap (or_else a) (or_else-none c))

-- ---- the parse of all words

abbrev begin : Walk
begin = stands (held [] None) idle

abbrev end : List Text → Held
end words = end_of names begin words

abbrev stop : List Text → Option (Text × List Text)
stop words = (walk (map opt names) [] nothing_held words).stopped

fault_is : (words : List Text) → fault_of the_app words ≡ or_else (walk_fault (the_shape names) [] begin words) (settle_fault (map opt names) false (end words))
fault_is words = four (walk_fault (the_shape names) [] begin words) (entered_fault whole_app (stop words)) (settle_fault (map opt names) false (end words))
    (defaults_fault (settled (map opt names) (end words)).rows (map opt names)) (check_fault (the_shape names) (finished (map opt names) (end words)) (is_some (entered whole_app (stop words))))
    (none_entered-fault (stop words)) (no_defaults_fault (settled (map opt names) (end words)).rows names)
    (no_check (finished (map opt names) (end words)) (is_some (entered whole_app (stop words))) (ap is_some (none_entered (stop words))))

matches_are : (words : List Text) → matches_of the_app words ≡ (settled (map opt names) (end words)).rows
matches_are words = no_defaults (settled (map opt names) (end words)).rows names

ends_are : (words : List Text) → ends names begin words ≡ ends_by (fault_of the_app words) (matches_of the_app words)
ends_are words = ap₂ ends_by (sym (fault_is words)) (sym (matches_are words))

reads : (words : List Text) → has_dashes words ≡ false → Reads names (through names [] (items_from None words)) (ends names begin words)
reads words no_dashes = (reading names words no_dashes [] (record { known = refl; differ = refl })).0

-- ---- the settings

abbrev chosen : Option (List Item) → Option Settings
chosen = option_and_then (λ items. settings_of (value_of items))

accepted-at : (b : Bool) (items : List Item) → cond b (settings_of (value_of items)) None ≡ chosen (cond b (Some items) None)
accepted-at true items = refl
accepted-at false items = refl

accepted_are : (o : Option (List Item)) → option_and_then accepted o ≡ chosen (through names [] o)
accepted_are None = refl
accepted_are (Some items) = accepted-at (are_options items) items

settings_are : (words : List Text) → words_settings words ≡ chosen (through names [] (items_from None words))
unfolding words_settings
settings_are words = accepted_are (items_from None words)

and-true : (b : Bool) → b ≡ (b && true)
and-true true = refl
and-true false = refl

all_pass-list : (look : Text → Option Text) → all_pass look ≡ list_all (λ n. passes (look n)) names
all_pass-list look = ap (λ b. passes (look (codes "app")) && (passes (look (codes "workers")) && (passes (look (codes "script")) && (passes (look (codes "emit")) && b))))
    (and-true (passes (look (codes "make"))))

looked_up : (items : List Item) → Good names items → found_settings (value_of items) ≡ chosen (by_values items)
looked_up items good =
    ap (λ b. cond b (settings_of (value_of items)) None) (all_pass-list (value_of items) ∙ lookups names items good) ∙ accepted-at (have_values items) items

found_are : (f : Found) (items : List Item) → rows_of f ≡ map row items → Good names items → found_settings (first_value f) ≡ chosen (by_values items)
found_are f items are good =
    let each : (n : Text) → first_value f n ≡ value_of items n = λ n. first_value-rows f n ∙ ap (first_of n) are ∙ first_of-items items n in
    let same : first_value f ≡ value_of items = λ i n. each n i in
    ap found_settings same ∙ looked_up items good

ok-at : (words : List Text) (f : Found) (rows : List Row) (items : Option (List Item)) → rows_of f ≡ rows → Some rows ≡ option_map (map row) items → IfSome items (Good names)
    → through names [] (items_from None words) ≡ option_and_then by_values items → words_settings words ≡ found_settings (first_value f)
ok-at words f rows None is same good tested = absurd (cc)
ok-at words f rows (Some items) is same good tested =
    let are : rows ≡ map row items = cc in
    settings_are words ∙ ap chosen tested ∙ sym (found_are f items (is ∙ are) good)

usage-at : (words : List Text) (items : Option (List Item)) → None ≡ option_map (map row) items
    → through names [] (items_from None words) ≡ option_and_then by_values items → words_settings words ≡ None
usage-at words None same tested = settings_are words ∙ ap chosen tested
usage-at words (Some items) same tested = absurd (cc)

ends-none : (ks : Kinds) (rows : List Row) → (ks ≡ [] → ⊥) → None ≡ ends_by ks rows
ends-none [] rows some = absurd (some refl)
ends-none (k ∷ ks) rows some = refl

-- what the parse found is what the definition reads
pub found : (words : List Text) → has_dashes words ≡ false → (f : Found) → fault_of the_app words ≡ [] → rows_of f ≡ matches_of the_app words → words_settings words ≡ found_settings (first_value f)
found words no_dashes f no_fault are =
    let r = reads words no_dashes in
    let all : Some (matches_of the_app words) ≡ ends names begin words = sym (ends_are words ∙ ap (λ ks. ends_by ks (matches_of the_app words)) no_fault) in
    ok-at words f (matches_of the_app words) r.items are (all ∙ r.rows) r.good r.tested

-- where it fails, the words are refused
pub refused : (words : List Text) → has_dashes words ≡ false → (fault_of the_app words ≡ [] → ⊥) → words_settings words ≡ None
refused words no_dashes fault =
    let r = reads words no_dashes in
    usage-at words r.items (ends-none (fault_of the_app words) (matches_of the_app words) fault ∙ sym (ends_are words) ∙ r.rows) r.tested

-- ---- the same, of a command that is the program's

pub found_by : (app : App) (words : List Text) (m : ArgMatches) → app ≡ the_app → has_dashes words ≡ false
    → (is_simple_and_free app ≡ true → fault_of app words ≡ []) → HasMatchesOf app words m → words_settings words ≡ found_settings (first_value (found_of m))
found_by app words m same no_dashes faults matches =
    let here : HasMatchesOf the_app words m = subst (λ a. HasMatchesOf a words m) same matches in
    let none : is_simple_and_free the_app ≡ true → fault_of the_app words ≡ [] = subst (λ a. is_simple_and_free a ≡ true → fault_of a words ≡ []) same faults in
    found words no_dashes (found_of m) (none simple_and_free) (here simple).0

not_among : (ks : Kinds) (e : Error) → HasKind ks e → (kind_of e ≡ OutOfMemory → ⊥) → ks ≡ [] → ⊥
not_among [] e (inl memory) other is = other memory
not_among [] e (inr among) other is = among
not_among (k ∷ ks) e has other is = absurd (cc)

pub refused_by : (app : App) (words : List Text) (e : Error) → app ≡ the_app → has_dashes words ≡ false
    → (is_simple_and_free app ≡ true → HasKind (fault_of app words) e) → (kind_of e ≡ OutOfMemory → ⊥) → words_settings words ≡ None
refused_by app words e same no_dashes faults other =
    let here : is_simple_and_free the_app ≡ true → HasKind (fault_of the_app words) e = subst (λ a. is_simple_and_free a ≡ true → HasKind (fault_of a words) e) same faults in
    refused words no_dashes (not_among (fault_of the_app words) e (here simple_and_free) other)
