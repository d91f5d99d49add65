-- What every item of a list passes, an item of it passes.
use Rattle.std.proofs.Common.{◌≡◌, ℕ, ◌<◌, Bool, true, List, length, get_or, sym, subst}
use Rattle.std.specs.List.{list_all}
use Rattle.std.proofs.lemmas.List.Sums.{AllPass-from_list_all}

pub passes-at : {X : Type 0} (p : X → Bool) (xs : List X) (i : ℕ) (x : X) → list_all p xs ≡ true → i < length xs → x ≡ get_or xs i x → p x ≡ true
passes-at p xs i x all within is = subst (λ y. p y ≡ true) (sym is) (AllPass-from_list_all p xs all i x within)
