-- Lists with rising names are equal where their parts by lane are.
use Rattle.std.proofs.Common.{◌≡◌, ◌<◌, ℕ, Bool, true, false, cond, List, [], ◌∷◌, refl, sym, ap, ◌∙◌, subst, map, arith, ⊎_elim}
use Rattle.std.specs.Prelude.{◌==◌, filter}
use Rattle.std.specs.List.{All}
use Rattle.std.proofs.lemmas.Bool.{cases_eq, eq-eqb, ne_eqb}
use Rattle.std.proofs.lemmas.List.Elements.{All-head, All-tail}
use Rattle.run_outcome.specs.Rising.{Rises}

module _ {T : Type 0} (name of : T → ℕ) where
  abbrev pub names : List T → List ℕ
  names xs = map name xs

  abbrev pub of_part : ℕ → List T → List T
  of_part l xs = filter (λ x. of x == l) xs

  above_here : (k : ℕ) (x y : T) (rest ys : List T) (b : Bool) → k < name y → cond b (y ∷ ys) ys ≡ x ∷ rest → (ys ≡ x ∷ rest → k < name x) → k < name x
  above_here k x y rest ys true lt e later = let same : y ≡ x = cc in subst (λ z. k < name z) same lt
  above_here k x y rest ys false lt e later = later e

  -- the first of a part comes behind what all names lie above
  part_above : (l : ℕ) (k : ℕ) (x : T) (rest ys : List T) → All (λ n. k < n) (names ys) → of_part l ys ≡ x ∷ rest → k < name x
  part_above l k x rest [] above e = absurd (cc)
  part_above l k x rest (y ∷ ys) above e =
      above_here k x y rest (of_part l ys) (of y == l) (All-head (λ n. k < n) (name y) (names ys) above) e (part_above l k x rest ys (All-tail (λ n. k < n) (name y) (names ys) above))

  part_own : (x : T) (xs : List T) → of_part (of x) (x ∷ xs) ≡ x ∷ of_part (of x) xs
  part_own x xs = let own = eq-eqb (of x) (of x) refl in ap (λ b. cond b (x ∷ of_part (of x) xs) (of_part (of x) xs)) own

  part_other : (l : ℕ) (x : T) (xs : List T) → (of x ≡ l → ⊥) → of_part l (x ∷ xs) ≡ of_part l xs
  part_other l x xs other = let isnt = ne_eqb (of x) l other in ap (λ b. cond b (x ∷ of_part l xs) (of_part l xs)) isnt

  -- two first ones of different lanes would each come behind the other
  first_lane : (x y : T) (xs ys : List T) → All (λ n. name x < n) (names xs) → All (λ n. name y < n) (names ys) → ((l : ℕ) → of_part l (x ∷ xs) ≡ of_part l (y ∷ ys)) → (of y ≡ of x → ⊥) → ⊥
  first_lane x y xs ys x-first y-first same other =
      let a : of_part (of x) ys ≡ x ∷ of_part (of x) xs = sym (part_other (of x) y ys other) ∙ sym (same (of x)) ∙ part_own x xs in
      let b : of_part (of y) xs ≡ y ∷ of_part (of y) ys = sym (part_other (of y) x xs (λ e. other (sym e))) ∙ same (of y) ∙ part_own y ys in
      let behind = part_above (of x) (name y) x (of_part (of x) xs) ys y-first a in
      let before = part_above (of y) (name x) y (of_part (of y) ys) xs x-first b in
      omega arith

  same_first : (x y : T) (xs ys : List T) → ((l : ℕ) → of_part l (x ∷ xs) ≡ of_part l (y ∷ ys)) → of y ≡ of x → x ≡ y
  same_first x y xs ys same own =
      let e : x ∷ of_part (of x) xs ≡ y ∷ of_part (of x) ys = sym (part_own x xs) ∙ same (of x) ∙ subst (λ l. of_part l (y ∷ ys) ≡ y ∷ of_part l ys) own (part_own y ys) in cc

  tail_here : (x : T) (xs ys : List T) (b : Bool) → cond b (x ∷ xs) xs ≡ cond b (x ∷ ys) ys → xs ≡ ys
  tail_here x xs ys true e = cc
  tail_here x xs ys false e = e

  firsts : (x y : T) (xs ys : List T) → All (λ n. name x < n) (names xs) → All (λ n. name y < n) (names ys) → ((l : ℕ) → of_part l (x ∷ xs) ≡ of_part l (y ∷ ys)) → x ≡ y
  firsts x y xs ys x-first y-first same = ⊎_elim (same_first x y xs ys same) (λ other. absurd (first_lane x y xs ys x-first y-first same other)) (cases_eq (of y) (of x))

  pub same_parts : (xs ys : List T) → Rises (names xs) → Rises (names ys) → ((l : ℕ) → of_part l xs ≡ of_part l ys) → xs ≡ ys
  unfolding Rises
  same_parts [] [] rx ry same = refl
  same_parts [] (y ∷ ys) rx ry same = absurd (let e = same (of y) ∙ part_own y ys in cc)
  same_parts (x ∷ xs) [] rx ry same = absurd (let e = sym (part_own x xs) ∙ same (of x) in cc)
  same_parts (x ∷ xs) (y ∷ ys) rx ry same =
      let first = firsts x y xs ys rx.0 ry.0 same in
      let tails : (l : ℕ) → of_part l xs ≡ of_part l ys = λ l. tail_here x (of_part l xs) (of_part l ys) (of x == l) (same l ∙ ap (λ z. of_part l (z ∷ ys)) (sym first)) in
      ap (λ z. z ∷ xs) first ∙ ap (λ zs. y ∷ zs) (same_parts xs ys rx.1 ry.1 tails)
