-- Items whose names are known and differ have a value each exactly where the look-ups by name find none that isn't one.
use Rattle.std.proofs.Common.{◌≡◌, ◌∙◌, ℕ, Bool, true, false, cond, not, ◌||◌, List, [], ◌∷◌, ◌++◌, Option, Some, find, option_map, bytes_eq, refl, sym, ap, subst}
use Rattle.std.specs.List.{list_all}
use Rattle.std.proofs.lemmas.List.{append_assoc, map-append}
use Rattle.words.specs.Found.{passes}
use Rattle.words.specs.Words.{Item, differ, has_name, is_value, names_of, value_of}
use Rattle.words.proofs.Names.{both, neither, same_text, text_itself}
use Rattle.words.proofs.Items.{Good, have_values, known}

not-true : (a : Bool) → not a ≡ true → a ≡ false
not-true true e = absurd (cc)
not-true false e = refl

pub same_bool : (a b : Bool) → (a ≡ true → b ≡ true) → (b ≡ true → a ≡ true) → a ≡ b
same_bool true b there back = sym (there refl)
same_bool false true there back = back refl
same_bool false false there back = refl

-- values that all are ones are found so
passes-at : (t : Bool) (i : Item) (o : Option Item) → is_value i.value ≡ true → passes (option_map (λ (j : Item). j.value) o) ≡ true
    → passes (option_map (λ (j : Item). j.value) (cond t (Some i) o)) ≡ true
passes-at true i o this more = this
passes-at false i o this more = more

found_pass : (items : List Item) → have_values items ≡ true → (n : List ℕ) → passes (value_of items n) ≡ true
found_pass [] all n = refl
found_pass (i ∷ items) all n =
    let parts = both (is_value i.value) (have_values items) all in
    passes-at (bytes_eq i.name n) i (find (λ j. bytes_eq j.name n) items) parts.0 (found_pass items parts.1 n)

all_pass-from : (ns : List (List ℕ)) (p : List ℕ → Bool) → ((n : List ℕ) → p n ≡ true) → list_all p ns ≡ true
all_pass-from [] p each = refl
all_pass-from (n ∷ ns) p each = rw (each n) (all_pass-from ns p each)

-- a test of all names is one of each name
member-at : (t : Bool) (p : List ℕ → Bool) (m n : List ℕ) (ns : List (List ℕ)) → bytes_eq m n ≡ t → p m ≡ true → (has_name ns n ≡ true → p n ≡ true) → (t || has_name ns n) ≡ true → p n ≡ true
member-at true p m n ns same this more e = subst (λ x. p x ≡ true) (same_text m n same) this
member-at false p m n ns same this more e = more e

member : (ns : List (List ℕ)) (p : List ℕ → Bool) (n : List ℕ) → list_all p ns ≡ true → has_name ns n ≡ true → p n ≡ true
member [] p n all e = absurd (cc)
member (m ∷ ns) p n all e =
    let parts = both (p m) (list_all p ns) all in
    member-at (bytes_eq m n) p m n ns refl parts.0 (member ns p n parts.1) e

-- a name that doesn't stand before is found behind
skip-at : (t : Bool) (i : Item) (o : Option Item) → t ≡ false → option_map (λ (j : Item). j.value) (cond t (Some i) o) ≡ option_map (λ (j : Item). j.value) o
skip-at true i o e = absurd (cc)
skip-at false i o e = refl

skip : (before rest : List Item) (n : List ℕ) → has_name (names_of before) n ≡ false → value_of (before ++ rest) n ≡ value_of rest n
skip [] rest n fresh = refl
skip (i ∷ before) rest n fresh =
    let parts = neither (bytes_eq i.name n) (has_name (names_of before) n) fresh in
    skip-at (bytes_eq i.name n) i (find (λ j. bytes_eq j.name n) (before ++ rest)) parts.0 ∙ skip before rest n parts.1

module _ (ns : List (List ℕ)) (all : List Item) (pass : list_all (λ n. passes (value_of all n)) ns ≡ true) where
  values_from : (before rest : List Item) → before ++ rest ≡ all → differ (names_of before) (names_of rest) ≡ true → known ns rest ≡ true → have_values rest ≡ true
  values_from before [] whole names_differ are_known = refl
  values_from before (i ∷ rest) whole names_differ are_known =
      let parts = both (not (has_name (names_of before) i.name)) (differ (names_of before ++ i.name ∷ []) (names_of rest)) names_differ in
      let knows = both (has_name ns i.name) (known ns rest) are_known in
      let first : value_of (i ∷ rest) i.name ≡ Some i.value = rw (text_itself i.name) refl in
      let found : value_of all i.name ≡ Some i.value =
      ap (λ items. value_of items i.name) (sym whole) ∙ skip before (i ∷ rest) i.name (not-true _ parts.0) ∙ first in
      let this : is_value i.value ≡ true = sym (ap passes found) ∙ member ns (λ n. passes (value_of all n)) i.name pass knows.0 in
      let later : differ (names_of (before ++ i ∷ [])) (names_of rest) ≡ true = rw (map-append (λ (j : Item). j.name) before (i ∷ [])) parts.1 in
      rw this (values_from (before ++ i ∷ []) rest (append_assoc before (i ∷ []) rest ∙ whole) later knows.1)

pub lookups : (ns : List (List ℕ)) (items : List Item) → Good ns items → list_all (λ n. passes (value_of items n)) ns ≡ have_values items
lookups ns items good = same_bool _ _
    (λ pass. values_from ns items pass [] items refl good.differ good.known)
    (λ all. all_pass-from ns (λ n. passes (value_of items n)) (found_pass items all))
