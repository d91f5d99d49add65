-- Fronts of lists.
use Rattle.std.proofs.Common.{◌≡◌, ℕ, zero, suc, ◌+◌, Some, List, [], ◌∷◌, ◌++◌, length, take, drop, sym, ap, ◌∙◌, append_assoc, drop-drop, take-add}
use Rattle.std.specs.Prelude.{slice_get}
use Rattle.std.proofs.lemmas.List.{append-nil}
use Rattle.std.proofs.Math.Seq.{take-append_seam, drop-append_seam}
use mathlib.Core.List.{IsPrefix}

module _ {A : Type 0} where
  pub IsPrefix-refl : (a : List A) → IsPrefix a a
  IsPrefix-refl a = ([], append-nil a)

  pub IsPrefix-trans : (a b c : List A) → IsPrefix a b → IsPrefix b c → IsPrefix a c
  IsPrefix-trans a b c p q = (p.0 ++ q.0, sym (append_assoc a p.0 q.0) ∙ ap (λ x. x ++ q.0) p.1 ∙ q.1)

  pub IsPrefix-after : (a b c : List A) → IsPrefix b c → IsPrefix (a ++ b) (a ++ c)
  IsPrefix-after a b c p = (p.0, append_assoc a b p.0 ∙ ap (λ x. a ++ x) p.1)

  -- the element in a place is the first of those from there on
  pub next_one : (xs : List A) (n : ℕ) (x : A) → slice_get xs n ≡ Some x → IsPrefix (x ∷ []) (drop n xs)
  next_one [] n x at = absurd (cc)
  next_one (y ∷ xs) zero x at = let same : x ≡ y = cc in (xs, ap (λ z. z ∷ xs) same)
  next_one (y ∷ xs) (suc n) x at = next_one xs n x at

  -- the next of a list behind its first n, and the next behind those
  pub next_two : (xs ahead behind : List A) (n : ℕ) → IsPrefix ahead (drop n xs) → IsPrefix behind (drop (n + length ahead) xs) → IsPrefix (ahead ++ behind) (drop n xs)
  next_two xs ahead behind n p q =
      let rest : drop (n + length ahead) xs ≡ p.0 =
      sym (drop-drop (length ahead) n xs) ∙ ap (drop (length ahead)) (sym p.1) ∙ drop-append_seam ahead p.0 in
      (q.0, append_assoc ahead behind q.0 ∙ ap (λ x. ahead ++ x) (q.1 ∙ rest) ∙ p.1)

  -- its first n with the next behind them
  pub take-two : (xs more : List A) (n : ℕ) → IsPrefix more (drop n xs) → take (n + length more) xs ≡ take n xs ++ more
  take-two xs more n p = take-add n (length more) xs ∙ ap (λ x. take n xs ++ x) (ap (take (length more)) (sym p.1) ∙ take-append_seam more p.0)
