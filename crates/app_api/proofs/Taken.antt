-- A list that is read place by place, up to its end.
use Rattle.std.proofs.Common.{◌≡◌, ℕ, ◌+◌, List, [], ◌∷◌, ◌++◌, take, slice_get, Some, None, ap, ◌∙◌, inl, inr}
use Rattle.std.proofs.lemmas.List.{take_all, take_more}
use Rattle.std.proofs.lemmas.Option.{slice_get_cases, slice_get_within, get_or_from_slice_get}

pub take-get_some : {X : Type 0} (xs : List X) (i : ℕ) (x : X) → slice_get xs i ≡ Some x → take (i + 1) xs ≡ take i xs ++ x ∷ []
take-get_some xs i x here =
    take_more xs i x (slice_get_within xs i x here)
    ∙ ap (λ y. take i xs ++ y ∷ []) (get_or_from_slice_get xs i x x here)

pub take-get_none : {X : Type 0} (xs : List X) (i : ℕ) → slice_get xs i ≡ None → take i xs ≡ xs
take-get_none xs i past =
    elim (slice_get_cases xs i).1 [
      | inl found ↦ cc (past, found.2)
      | inr beyond ↦ take_all i xs beyond.0
    ]
