-- Contents by name, looked for from the front.
use Rattle.std.proofs.Common.{◌≡◌, ℕ, zero, suc, ◌<◌, ◌≤◌, List, [], ◌∷◌, length, map, drop, get_or, min, true, false, None, Some, refl, arith}
use Rattle.std.specs.Prelude.{bytes_eq}
use Rattle.mos_bytes.specs.Fetches.{content_of}

-- another name is passed over
pub content-passes : {X Y : Type 0} (f : X → List ℕ) (h : Y → List ℕ) (i : ℕ) (names : List X) (contents : List Y) (d : X) (name : List ℕ)
    → i < length names → i < length contents → bytes_eq (f (get_or names i d)) name ≡ false
    → content_of (map f (drop (suc i) names)) (map h (drop (suc i) contents)) name ≡ content_of (map f (drop i names)) (map h (drop i contents)) name
unfolding content_of
content-passes f h i [] contents d name named held other = absurd (omega arith)
content-passes f h i (n ∷ names) [] d name named held other = absurd (omega arith)
content-passes f h zero (n ∷ names) (c ∷ contents) d name named held other = rw other refl
content-passes f h (suc i) (n ∷ names) (c ∷ contents) d name named held other = content-passes f h i names contents d name (omega arith) (omega arith) other

-- the content beside this name
pub content-here : {X Y : Type 0} (f : X → List ℕ) (h : Y → List ℕ) (i : ℕ) (names : List X) (contents : List Y) (d : X) (e : Y) (name : List ℕ)
    → i < length names → i < length contents → bytes_eq (f (get_or names i d)) name ≡ true
    → content_of (map f (drop i names)) (map h (drop i contents)) name ≡ Some (h (get_or contents i e))
unfolding content_of
content-here f h i [] contents d e name named held this = absurd (omega arith)
content-here f h i (n ∷ names) [] d e name named held this = absurd (omega arith)
content-here f h zero (n ∷ names) (c ∷ contents) d e name named held this = rw this refl
content-here f h (suc i) (n ∷ names) (c ∷ contents) d e name named held this = content-here f h i names contents d e name (omega arith) (omega arith) this

content-nothing : (names : List (List ℕ)) (name : List ℕ) → content_of names [] name ≡ None
unfolding content_of
content-nothing [] name = refl
content-nothing (n ∷ names) name = refl

-- nothing is left to look at
pub content-over : {X Y : Type 0} (f : X → List ℕ) (h : Y → List ℕ) (i : ℕ) (names : List X) (contents : List Y) (name : List ℕ)
    → min (length names) (length contents) ≤ i → content_of (map f (drop i names)) (map h (drop i contents)) name ≡ None
unfolding content_of
content-over f h zero [] contents name over = refl
content-over f h zero (n ∷ names) [] name over = refl
content-over f h zero (n ∷ names) (c ∷ contents) name over = absurd (omega arith)
content-over f h (suc i) [] contents name over = refl
content-over f h (suc i) (n ∷ names) [] name over = content-nothing (map f (drop i names)) name
content-over f h (suc i) (n ∷ names) (c ∷ contents) name over = content-over f h i names contents name (omega arith)
