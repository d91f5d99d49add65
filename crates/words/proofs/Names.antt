-- Options by name: the rules of a command are found by name, and a row stands for each item.
use Rattle.std.proofs.Common.{◌≡◌, ◌∙◌, ℕ, Bool, true, false, cond, not, ◌&&◌, ◌||◌, List, [], ◌∷◌, ◌++◌, map, Some, None, option_map, option_and_then, find, slice_get, bytes_eq, refl, sym, ap}
use Rattle.std.proofs.lemmas.Bool.{true≢false}
use Rattle.std.proofs.lemmas.List.{append-nil, append_assoc, map-append}
use Rattle.std.proofs.lemmas.Slice.Eq.{bytes_eq-Decides}
use Rattle.clap.specs.Walk.{Row, Rule, arg_by_id, arg_by_index, arg_by_long, arg_by_short, at_row, first_of, has_row, more_values, reading_by, used, without}
use Rattle.clap.specs.Simple.{filled}
use Rattle.clap.specs.declared.parser.matches.ValueSource.TheVariants.{CommandLine}
use Rattle.words.specs.Command.{option_rule}
use Rattle.words.specs.Words.{Item, differ, has_name, names_of, value_of}

pub same_text : (a b : List ℕ) → bytes_eq a b ≡ true → a ≡ b
same_text a b e = (bytes_eq-Decides a b).0 e

pub text_itself : (a : List ℕ) → bytes_eq a a ≡ true
text_itself a = (bytes_eq-Decides a a).1 refl

-- ---- tests of both and of either

pub both : (a b : Bool) → (a && b) ≡ true → (a ≡ true) × (b ≡ true)
both true b e = (refl, e)
both false b e = absurd (true≢false (sym e))

pub neither : (b c : Bool) → (b || c) ≡ false → (b ≡ false) × (c ≡ false)
neither false false e = (refl, refl)
neither false true e = absurd (true≢false e)
neither true c e = absurd (true≢false e)

pub and_false : (a b : Bool) → b ≡ false → (a && b) ≡ false
and_false true b e = e
and_false false b e = refl

-- the rule of an option, once the command is built
abbrev pub opt : List ℕ → Rule
opt n = filled (option_rule n)

-- ---- the rules by name

by_id-at : (b : Bool) (n x : List ℕ) (ns : List (List ℕ)) → bytes_eq n x ≡ b → arg_by_id (map opt ns) x ≡ cond (has_name ns x) (Some (opt x)) None
    → cond b (Some (opt n)) (arg_by_id (map opt ns) x) ≡ cond (b || has_name ns x) (Some (opt x)) None
by_id-at true n x ns e more = ap (λ m. Some (opt m)) (same_text n x e)
by_id-at false n x ns e more = more

pub by_id : (ns : List (List ℕ)) (x : List ℕ) → arg_by_id (map opt ns) x ≡ cond (has_name ns x) (Some (opt x)) None
by_id [] x = refl
by_id (n ∷ ns) x = by_id-at (bytes_eq n x) n x ns refl (by_id ns x)

by_long-at : (b : Bool) (n x : List ℕ) (ns : List (List ℕ)) → bytes_eq n x ≡ b → arg_by_long (map opt ns) x ≡ cond (has_name ns x) (Some (opt x)) None
    → cond (b || false) (Some (opt n)) (arg_by_long (map opt ns) x) ≡ cond (b || has_name ns x) (Some (opt x)) None
by_long-at true n x ns e more = ap (λ m. Some (opt m)) (same_text n x e)
by_long-at false n x ns e more = more

pub by_long : (ns : List (List ℕ)) (x : List ℕ) → arg_by_long (map opt ns) x ≡ cond (has_name ns x) (Some (opt x)) None
by_long [] x = refl
by_long (n ∷ ns) x = by_long-at (bytes_eq n x) n x ns refl (by_long ns x)

pub by_short : (ns : List (List ℕ)) (x : ℕ) → arg_by_short (map opt ns) x ≡ None
by_short [] x = refl
by_short (n ∷ ns) x = by_short ns x

pub by_index : (ns : List (List ℕ)) (i : ℕ) → arg_by_index (map opt ns) i ≡ None
by_index [] i = refl
by_index (n ∷ ns) i = by_index ns i

-- ---- rows

-- what is found of an item
abbrev pub row : Item → Row
row i = record {
  id = i.name;
  values = i.value ∷ [];
  count = None;
  source = Some CommandLine;
  reading = reading_by (opt i.name);
}

abbrev pub item : List ℕ → List ℕ → Item
item n v = record { name = n; value = v }

pub has_row-names : (done : List Item) (n : List ℕ) → has_row n (map row done) ≡ has_name (names_of done) n
has_row-names [] n = refl
has_row-names (i ∷ done) n = ap (λ b. bytes_eq i.name n || b) (has_row-names done n)

at_row-at : (b : Bool) (id : List ℕ) (change : Row → List Row) (missing : List Row) (i : Item) (done : List Item) → b ≡ false → at_row id change missing (map row done) ≡ map row done ++ missing
    → cond b (change (row i) ++ map row done) (row i ∷ at_row id change missing (map row done)) ≡ row i ∷ (map row done ++ missing)
at_row-at true id change missing i done e more = absurd (true≢false e)
at_row-at false id change missing i done e more = ap (λ rs. row i ∷ rs) more

-- a name that no row has is changed at the end
pub at_row-fresh : (done : List Item) (id : List ℕ) (change : Row → List Row) (missing : List Row) → has_name (names_of done) id ≡ false
    → at_row id change missing (map row done) ≡ map row done ++ missing
at_row-fresh [] id change missing fresh = refl
at_row-fresh (i ∷ done) id change missing fresh =
    let parts = neither (bytes_eq i.name id) (has_name (names_of done) id) fresh in
    at_row-at (bytes_eq i.name id) id change missing i done parts.0 (at_row-fresh done id change missing parts.1)

-- a use of an option that wasn't used adds its row
pub used-fresh : (done : List Item) (n v : List ℕ) → has_name (names_of done) n ≡ false
    → used (opt n) (v ∷ []) (map row done) ≡ map row (done ++ item n v ∷ [])
used-fresh done n v fresh =
    let bare : without n (map row done) ≡ map row done = at_row-fresh done n (λ _. []) [] fresh ∙ append-nil (map row done) in
    rw bare (at_row-fresh done n (more_values CommandLine (v ∷ [])) (row (item n v) ∷ []) fresh ∙ sym (map-append row done (item n v ∷ [])))

first-at : (b : Bool) (n : List ℕ) (i : Item) (done : List Item) → first_of n (map row done) ≡ value_of done n
    → option_and_then (λ (r : Row). slice_get r.values 0) (cond b (Some (row i)) (find (λ r. bytes_eq r.id n) (map row done)))
    ≡ option_map (λ (j : Item). j.value) (cond b (Some i) (find (λ j. bytes_eq j.name n) done))
first-at true n i done more = refl
first-at false n i done more = more

-- the first value of a name is that of its item
pub first_of-items : (done : List Item) (n : List ℕ) → first_of n (map row done) ≡ value_of done n
first_of-items [] n = refl
first_of-items (i ∷ done) n = first-at (bytes_eq i.name n) n i done (first_of-items done n)

-- ---- names that differ

-- a name that stood before
pub differ-again : (before ds : List (List ℕ)) (n : List ℕ) (ns : List (List ℕ)) → has_name (before ++ ds) n ≡ true → differ before (ds ++ n ∷ ns) ≡ false
differ-again before [] n ns stood =
    let here : has_name before n ≡ true = rw append-nil at stood in
    rw here refl
differ-again before (d ∷ ds) n ns stood =
    and_false (not (has_name before d)) _ (differ-again (before ++ d ∷ []) ds n ns (rw append_assoc stood))

-- a name that didn't
pub differ-more : (before ds : List (List ℕ)) (n : List ℕ) → differ before ds ≡ true → has_name (before ++ ds) n ≡ false → differ before (ds ++ n ∷ []) ≡ true
differ-more before [] n ds_differ fresh =
    let here : has_name before n ≡ false = rw append-nil at fresh in
    rw here refl
differ-more before (d ∷ ds) n ds_differ fresh =
    let parts = both (not (has_name before d)) _ ds_differ in
    rw parts.0 (differ-more (before ++ d ∷ []) ds n parts.1 (rw append_assoc fresh))
