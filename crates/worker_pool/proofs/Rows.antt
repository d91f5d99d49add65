-- Lists beside each other, place by place.
use Rattle.std.proofs.Common.{◌≡◌, ◌<◌, ℕ, zero, suc, List, [], ◌∷◌, ◌++◌, length, get_or, All, refl, sym, ap, subst, ◌∙◌, append_assoc, arith}
use Rattle.std.specs.List.{AllZip}
use Rattle.std.proofs.lemmas.List.{append-nil}

module _ {A B : Type 0} (R : A → B → Type 0) where
  -- a pair more at the end
  pub AllZip-more : (xs : List A) (ys : List B) (x : A) (y : B) → AllZip R xs ys → R x y → AllZip R (xs ++ x ∷ []) (ys ++ y ∷ [])
  AllZip-more [] [] x y all one = (one, tt)
  AllZip-more [] (b ∷ ys) x y all one = absurd all
  AllZip-more (a ∷ xs) [] x y all one = absurd all
  AllZip-more (a ∷ xs) (b ∷ ys) x y all one = (all.0, AllZip-more xs ys x y all.1 one)

  -- lists beside each other are as long
  pub AllZip-length : (xs : List A) (ys : List B) → AllZip R xs ys → length xs ≡ length ys
  AllZip-length [] [] all = refl
  AllZip-length [] (b ∷ ys) all = absurd all
  AllZip-length (a ∷ xs) [] all = absurd all
  AllZip-length (a ∷ xs) (b ∷ ys) all = ap suc (AllZip-length xs ys all.1)

  -- a pair at a place
  pub AllZip-at : (xs : List A) (ys : List B) (k : ℕ) (x : A) (y : B) → AllZip R xs ys → k < length ys → R (get_or xs k x) (get_or ys k y)
  AllZip-at [] [] k x y all below = absurd (omega (arith, below))
  AllZip-at [] (b ∷ ys) k x y all below = absurd all
  AllZip-at (a ∷ xs) [] k x y all below = absurd all
  AllZip-at (a ∷ xs) (b ∷ ys) zero x y all below = all.0
  AllZip-at (a ∷ xs) (b ∷ ys) (suc k) x y all below = AllZip-at xs ys k x y all.1 (omega (arith, below))

  -- pairs at all places
  pub all_zip : (xs : List A) (ys : List B) → length xs ≡ length ys → ((k : ℕ) (x : A) (y : B) → k < length ys → R (get_or xs k x) (get_or ys k y)) → AllZip R xs ys
  all_zip [] [] long each = tt
  all_zip [] (b ∷ ys) long each = absurd (cc)
  all_zip (a ∷ xs) [] long each = absurd (cc)
  all_zip (a ∷ xs) (b ∷ ys) long each =
      (each 0 a b (omega arith), all_zip xs ys (omega (arith, long)) (λ k x y below. each (suc k) x y (omega (arith, below))))

module _ {A : Type 0} (P : A → Type 0) where
  -- what holds of all holds of the first, and of the others
  pub all_first : (x : A) (xs ys : List A) → All P xs → xs ≡ x ∷ ys → P x
  all_first x xs ys all is = (subst (λ l. All P l) is all) 0 x (omega arith)

  pub all_others : (x : A) (xs ys : List A) → All P xs → xs ≡ x ∷ ys → All P ys
  all_others x xs ys all is = λ k d below. (subst (λ l. All P l) is all) (suc k) d (omega (arith, below))

-- an item goes from the head of the others to the end of the front
pub moved : {A : Type 0} → (all front others rest : List A) (x : A) → all ≡ front ++ others → others ≡ x ∷ rest → all ≡ (front ++ x ∷ []) ++ rest
moved all front others rest x whole is = whole ∙ ap (λ l. front ++ l) is ∙ sym (append_assoc front (x ∷ []) rest)

-- where no other is left, the front is all
pub no_other : {A : Type 0} → (all front others : List A) → all ≡ front ++ others → others ≡ [] → all ≡ front
no_other all front others whole none = whole ∙ ap (λ l. front ++ l) none ∙ append-nil front

module _ {A B : Type 0} (R : A → B → Type 0) where
  -- the first pair, and the others
  zip_parts : (x : A) (y : B) (xs others : List A) (ys bs : List B) → AllZip R others bs → others ≡ x ∷ xs → bs ≡ y ∷ ys → R x y × AllZip R xs ys
  zip_parts x y xs others ys bs all is at = subst (λ l. AllZip R (x ∷ xs) l) at (subst (λ l. AllZip R l bs) is all)

  pub zip_first : (x : A) (y : B) (xs others : List A) (ys bs : List B) → AllZip R others bs → others ≡ x ∷ xs → bs ≡ y ∷ ys → R x y
  zip_first x y xs others ys bs all is at = (zip_parts x y xs others ys bs all is at).0

  pub zip_others : (x : A) (y : B) (xs others : List A) (ys bs : List B) → AllZip R others bs → others ≡ x ∷ xs → bs ≡ y ∷ ys → AllZip R xs ys
  zip_others x y xs others ys bs all is at = (zip_parts x y xs others ys bs all is at).1
