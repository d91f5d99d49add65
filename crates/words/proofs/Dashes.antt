-- Words of which one is `--` are refused: it is the value of an item, or the empty name.
use Rattle.std.proofs.Common.{◌≡◌, ℕ, Bool, true, false, cond, ◌&&◌, ◌||◌, List, [], ◌∷◌, codes, Option, Some, None, IfSome, option_and_then, bytes_eq, refl, ap}
use Rattle.std.specs.List.{list_all}
use Rattle.words.specs.Found.{has_dashes}
use Rattle.words.specs.Words.{Item, accepted, are_options, begun, differ, has_name, is_value, items_from, names, names_of, option_of, settings_of, value_of, with_item, words_settings}
use Rattle.words.proofs.Names.{both, and_false, item, same_text}
use Rattle.words.proofs.Items.{have_values, known}

abbrev is_fine : Item → Bool
is_fine i = has_name names i.name && is_value i.value

abbrev Unfit : Option (List Item) → Type 0
Unfit o = IfSome o (λ items. list_all is_fine items ≡ false)

-- one item that isn't fine, or one before others of which one isn't
unfit-first : (n v : List ℕ) (o : Option (List Item)) → is_fine (item n v) ≡ false → Unfit (with_item n v o)
unfit-first n v None e = tt
unfit-first n v (Some items) e = rw e refl

unfit-more : (n v : List ℕ) (o : Option (List Item)) → Unfit o → Unfit (with_item n v o)
unfit-more n v None e = tt
unfit-more n v (Some items) e = and_false (is_fine (item n v)) (list_all is_fine items) e

-- an empty name, with whatever value
empty_name : (ws : List (List ℕ)) → Unfit (items_from (Some []) ws)
empty_name [] = tt
empty_name (w ∷ ws) = unfit-first [] w (items_from None ws) refl

dash_value : (n w : List ℕ) → w ≡ codes "--" → is_fine (item n w) ≡ false
dash_value n w e = and_false (has_name names n) (is_value w) (ap is_value e)

abbrev Waits : List (List ℕ) → Type 0
Waits ws = (q : Option (List ℕ)) → Unfit (items_from q ws)

begun-unfit : (o : Option (List ℕ × Option (List ℕ))) (ws : List (List ℕ)) → Waits ws → Unfit (begun o (items_from None ws) (λ name. items_from (Some name) ws))
begun-unfit None ws more = tt
begun-unfit (Some (x, None)) ws more = more (Some x)
begun-unfit (Some (x, Some v)) ws more = unfit-more x v (items_from None ws) (more None)

unfit-at : (b : Bool) (w : List ℕ) (ws : List (List ℕ)) → bytes_eq w (codes "--") ≡ b → (b || has_dashes ws) ≡ true → (has_dashes ws ≡ true → Waits ws) → Waits (w ∷ ws)
unfit-at true w ws same dashes more None =
    let is : w ≡ codes "--" = same_text w (codes "--") same in
    rw is (empty_name ws)
unfit-at true w ws same dashes more (Some name) = unfit-first name w (items_from None ws) (dash_value name w (same_text w (codes "--") same))
unfit-at false w ws other dashes more None = begun-unfit (option_of w) ws (more dashes)
unfit-at false w ws other dashes more (Some name) = unfit-more name w (items_from None ws) (more dashes None)

unfit : (ws : List (List ℕ)) → has_dashes ws ≡ true → Waits ws
unfit [] dashes = absurd (cc)
unfit (w ∷ ws) dashes = unfit-at (bytes_eq w (codes "--")) w ws refl dashes (unfit ws)

all_fine : (items : List Item) → known names items ≡ true → have_values items ≡ true → list_all is_fine items ≡ true
all_fine [] knows values = refl
all_fine (i ∷ items) knows values =
    let k = both (has_name names i.name) (known names items) knows in
    let v = both (is_value i.value) (have_values items) values in
    rw (k.0, v.0) (all_fine items k.1 v.1)

refused-at : (b : Bool) (items : List Item) → are_options items ≡ b → list_all is_fine items ≡ false → cond b (settings_of (value_of items)) None ≡ None
refused-at true items are not_fine =
    let outer = both (known names items) (differ [] (names_of items) && have_values items) are in
    let inner = both (differ [] (names_of items)) (have_values items) outer.1 in
    let fine = all_fine items outer.0 inner.1 in
    absurd (cc)
refused-at false items are not_fine = refl

refused-items : (o : Option (List Item)) → Unfit o → option_and_then accepted o ≡ None
refused-items None e = refl
refused-items (Some items) e = refused-at (are_options items) items refl e

pub dashed : (words : List (List ℕ)) → has_dashes words ≡ true → words_settings words ≡ None
unfolding words_settings
dashed words dashes = refused-items (items_from None words) (unfit words dashes None)
