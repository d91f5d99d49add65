-- That all of a list fits, one piece at a time.
use Rattle.std.proofs.Common.{◌≡◌, ◌∙◌, ℕ, ◌+◌, true, List, [], ◌∷◌, drop, slice_get, Some, None, ap, inl, inr}
use Rattle.std.specs.Prelude.{Bool, ◌&&◌}
use Rattle.std.specs.List.{list_all}
use Rattle.std.proofs.lemmas.List.{drop_more, at_drop_all}
use Rattle.std.proofs.lemmas.Option.{slice_get_cases, slice_get_within, get_or_from_slice_get}

module _ {X : Type 0} (p : X → Bool) where
  -- what is left decides, behind a first item that fits
  pub all-later : (whole : Bool) (left : List X) (x : X) (later : List X) → whole ≡ list_all p left → left ≡ x ∷ later → p x ≡ true
      → whole ≡ list_all p later
  all-later whole left x later same is fits = same ∙ ap (list_all p) is ∙ ap (λ b. b && list_all p later) fits

  pub all-none : (whole : Bool) (left : List X) → whole ≡ list_all p left → left ≡ [] → whole ≡ true
  all-none whole left same none = same ∙ ap (list_all p) none

-- a list that is asked for one place after another
pub asked-later : {X : Type 0} (xs : List X) (i : ℕ) (x : X) → slice_get xs i ≡ Some x → drop i xs ≡ x ∷ drop (i + 1) xs
asked-later xs i x here = drop_more xs i x (slice_get_within xs i x here) ∙ ap (λ y. y ∷ drop (i + 1) xs) (get_or_from_slice_get xs i x x here)

-- up to where it has none
pub asked-past : {X : Type 0} (xs : List X) (i : ℕ) → slice_get xs i ≡ None → drop i xs ≡ []
asked-past xs i none =
    elim (slice_get_cases xs i).1 [
      | inl found ↦ cc (none, found.2)
      | inr beyond ↦ at_drop_all (λ ys. ys) xs i beyond.0
    ]
