-- The shares of lanes: a longer one begins with a shorter one, and only the lanes of the packets that were sent count.
use Rattle.std.proofs.Common.{◌≡◌, ◌+◌, ◌-◌, ◌<◌, ◌≤◌, ℕ, zero, suc, refl, sym, ap, ◌∙◌, subst, List, [], ◌∷◌, ◌++◌, arith, ⊎_elim, append_assoc, append-nil}
use Rattle.std.specs.Prelude.{if◌then◌else◌, ◌==◌}
use Rattle.std.proofs.lemmas.Bool.{cases_eq, eq-eqb, ne_eqb}
use Rattle.lane_composition.specs.Share.{share}

module _ (lane : ℕ → ℕ) where
  pub share-own : (l n : ℕ) → lane n ≡ l → share lane l (suc n) ≡ share lane l n ++ n ∷ []
  unfolding share
  share-own l n own = let e = eq-eqb (lane n) l own in rw e refl

  pub share-other : (l n : ℕ) → (lane n ≡ l → ⊥) → share lane l (suc n) ≡ share lane l n
  unfolding share
  share-other l n other = let e = ne_eqb (lane n) l other in rw e refl

  -- by one packet more
  pub own_more : (n : ℕ) → share lane (lane n) (n + 1) ≡ share lane (lane n) n ++ n ∷ []
  own_more n = ap (share lane (lane n)) (let e : n + 1 ≡ suc n = omega arith in e) ∙ share-own (lane n) n refl

  pub others_same : (n l : ℕ) → (l ≡ lane n → ⊥) → share lane l (n + 1) ≡ share lane l n
  others_same n l other = ap (share lane l) (let e : n + 1 ≡ suc n = omega arith in e) ∙ share-other l n (λ e. other (sym e))

  share-more : (l n : ℕ) → (more : List ℕ) × (share lane l (suc n) ≡ share lane l n ++ more)
  share-more l n = ⊎_elim (λ own. (n ∷ [], share-own l n own)) (λ other. ([], share-other l n other ∙ sym (append-nil (share lane l n)))) (cases_eq (lane n) l)

  -- and by k more
  share-grows : (l n k : ℕ) → (more : List ℕ) × (share lane l (k + n) ≡ share lane l n ++ more)
  share-grows l n zero = ([], ap (share lane l) (let e : 0 + n ≡ n = omega arith in e) ∙ sym (append-nil (share lane l n)))
  share-grows l n (suc k) =
      let before = share-grows l n k in
      let last = share-more l (k + n) in
      let e : suc k + n ≡ suc (k + n) = omega arith in
      (before.0 ++ last.0, ap (share lane l) e ∙ last.1 ∙ ap (λ x. x ++ last.0) before.1 ∙ append_assoc (share lane l n) before.0 last.0)

  pub share-front : (l n m : ℕ) → n ≤ m → (more : List ℕ) × (share lane l m ≡ share lane l n ++ more)
  share-front l n m le = let e : (m - n) + n ≡ m = omega arith in subst (λ x. (more : List ℕ) × (share lane l x ≡ share lane l n ++ more)) e (share-grows l n (m - n))

pub share_same : (lane other : ℕ → ℕ) (n : ℕ) → ((i : ℕ) → i < n → other i ≡ lane i) → (l : ℕ) → share other l n ≡ share lane l n
unfolding share
share_same lane other zero agree l = refl
share_same lane other (suc n) agree l =
    let before = share_same lane other n (λ i lt. agree i (omega arith)) l in
    ap (λ k. if k == l then share other l n ++ n ∷ [] else share other l n) (agree n (omega arith))
    ∙ ap (λ x. if lane n == l then x ++ n ∷ [] else x) before
