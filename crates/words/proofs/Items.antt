-- The items that are read after others: when they are accepted with these.
use Rattle.std.proofs.Common.{◌≡◌, ◌∙◌, ℕ, Bool, true, false, cond, ◌&&◌, List, [], ◌∷◌, ◌++◌, Option, Some, None, option_map, option_and_then, refl, sym, ap}
use Rattle.std.specs.List.{list_all}
use Rattle.std.proofs.lemmas.List.{append_assoc, map-append}
use Rattle.std.proofs.lemmas.List.Folds.{list_all-append}
use Rattle.words.specs.Words.{Item, differ, has_name, is_value, names_of, with_item}
use Rattle.words.proofs.Names.{item, differ-again, differ-more, and_false}

abbrev pub known : List (List ℕ) → List Item → Bool
known ns items = list_all (λ i. has_name ns i.name) items

abbrev pub have_values : List Item → Bool
have_values items = list_all (λ i. is_value i.value) items

-- the names are known and differ, and each value is one
abbrev pub strict : List (List ℕ) → List Item → Option (List Item)
strict ns items = cond (known ns items && (differ [] (names_of items) && have_values items)) (Some items) None

abbrev pub by_values : List Item → Option (List Item)
by_values items = cond (have_values items) (Some items) None

-- the items behind those that are done, where all are accepted
abbrev pub through : List (List ℕ) → List Item → Option (List Item) → Option (List Item)
through ns done items = option_and_then (strict ns) (option_map (λ more. done ++ more) items)

pub record Good (ns : List (List ℕ)) (done : List Item) : Type 0 where
  pub known : known ns done ≡ true
  pub differ : differ [] (names_of done) ≡ true

all_but : (p : Item → Bool) (done : List Item) (i : Item) (more : List Item) → p i ≡ false → list_all p (done ++ i ∷ more) ≡ false
all_but p done i more e = list_all-append p done (i ∷ more) ∙ rw e (and_false (list_all p done) false refl)

pub good-more : (ns : List (List ℕ)) (done : List Item) (n v : List ℕ) → Good ns done → has_name ns n ≡ true → has_name (names_of done) n ≡ false → Good ns (done ++ item n v ∷ [])
good-more ns done n v good is_known fresh = record {
  known = list_all-append (λ (i : Item). has_name ns i.name) done (item n v ∷ []) ∙ rw (good.known, is_known) refl;
  differ = rw (map-append (λ (i : Item). i.name) done (item n v ∷ [])) (differ-more [] (names_of done) n good.differ fresh);
}

-- one more item is done
pub through-more : (ns : List (List ℕ)) (done : List Item) (n v : List ℕ) (o : Option (List Item)) → through ns done (with_item n v o) ≡ through ns (done ++ item n v ∷ []) o
through-more ns done n v None = refl
through-more ns done n v (Some more) = ap (strict ns) (sym (append_assoc done (item n v ∷ []) more))

-- an item that isn't accepted with those done
pub through-unknown : (ns : List (List ℕ)) (done : List Item) (n v : List ℕ) (o : Option (List Item)) → has_name ns n ≡ false → through ns done (with_item n v o) ≡ None
through-unknown ns done n v None e = refl
through-unknown ns done n v (Some more) e =
    let none : known ns (done ++ item n v ∷ more) ≡ false = all_but (λ i. has_name ns i.name) done (item n v) more e in
    rw none refl

pub through-again : (ns : List (List ℕ)) (done : List Item) (n v : List ℕ) (o : Option (List Item)) → has_name (names_of done) n ≡ true → through ns done (with_item n v o) ≡ None
through-again ns done n v None e = refl
through-again ns done n v (Some more) e =
    let none : differ [] (names_of (done ++ item n v ∷ more)) ≡ false =
    rw (map-append (λ (i : Item). i.name) done (item n v ∷ more)) (differ-again [] (names_of done) n (names_of more) e) in
    rw none (ap (λ b. cond b (Some (done ++ item n v ∷ more)) None) (and_false (known ns (done ++ item n v ∷ more)) false refl))

pub through-bad : (ns : List (List ℕ)) (done : List Item) (n v : List ℕ) (o : Option (List Item)) → is_value v ≡ false → through ns done (with_item n v o) ≡ None
through-bad ns done n v None e = refl
through-bad ns done n v (Some more) e =
    let all = done ++ item n v ∷ more in
    let none : have_values all ≡ false = all_but (λ i. is_value i.value) done (item n v) more e in
    ap (λ b. cond (known ns all && (differ [] (names_of all) && b)) (Some all) None) none
    ∙ ap (λ b. cond (known ns all && b) (Some all) None) (and_false (differ [] (names_of all)) false refl)
    ∙ ap (λ b. cond b (Some all) None) (and_false (known ns all) false refl)
