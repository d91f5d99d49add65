-- How many numbers below n pass a test: over a sum of two ranges, where all pass, where none does, and for tests that agree.
use Rattle.std.proofs.Common.{◌≡◌, ℕ, ◌+◌, ◌<◌, ◌≤◌, suc, zero, Bool, true, false, cond, refl, ap, ap₂, ◌∙◌, sym, arith, add-suc, add-zero}
use Rattle.reassembly.specs.Segment.{count_below}

pub count_below-same : (f g : ℕ → Bool) (n : ℕ) → ((i : ℕ) → i < n → f i ≡ g i) → count_below f n ≡ count_below g n
count_below-same f g zero h = refl
count_below-same f g (suc n) h =
    let here : f n ≡ g n = h n (omega arith) in
    let before : count_below f n ≡ count_below g n = count_below-same f g n (λ i l. h i (omega arith)) in
    ap₂ (λ b m. cond b 1 0 + m) here before

pub count_below-all : (f : ℕ → Bool) (n : ℕ) → ((i : ℕ) → i < n → f i ≡ true) → count_below f n ≡ n
count_below-all f zero h = refl
count_below-all f (suc n) h =
    let here : f n ≡ true = h n (omega arith) in
    let before : count_below f n ≡ n = count_below-all f n (λ i l. h i (omega arith)) in
    rw here (omega (arith, before))

pub count_below-none : (f : ℕ → Bool) (n : ℕ) → ((i : ℕ) → i < n → f i ≡ false) → count_below f n ≡ 0
count_below-none f zero h = refl
count_below-none f (suc n) h =
    let here : f n ≡ false = h n (omega arith) in
    let before : count_below f n ≡ 0 = count_below-none f n (λ i l. h i (omega arith)) in
    rw here (omega (arith, before))

pub count_below-le : (f : ℕ → Bool) (n : ℕ) → count_below f n ≤ n
count_below-le f zero = omega arith
count_below-le f (suc n) = let before : count_below f n ≤ n = count_below-le f n in
    elim (f n) as (λ b. cond b 1 0 + count_below f n ≤ suc n) [ true ↦ omega arith | false ↦ omega arith ]

pub count_below-add : (f : ℕ → Bool) (m n : ℕ) → count_below f (m + n) ≡ count_below f m + count_below (λ i. f (m + i)) n
count_below-add f m zero = ap (count_below f) (add-zero m) ∙ sym (add-zero (count_below f m))
count_below-add f m (suc n) =
    let before : count_below f (m + n) ≡ count_below f m + count_below (λ i. f (m + i)) n = count_below-add f m n in
    rw add-suc (omega (arith, before))

-- a stretch from m to k that passes as a whole, or that a count of its own describes
pub count_below-stretch : (f g : ℕ → Bool) (m n k : ℕ) → m + n ≡ k → ((i : ℕ) → i < n → f (m + i) ≡ g i) → count_below f k ≡ count_below f m + count_below g n
count_below-stretch f g m n k e h =
    let parts : count_below f (m + n) ≡ count_below f m + count_below (λ i. f (m + i)) n = count_below-add f m n in
    let same : count_below (λ i. f (m + i)) n ≡ count_below g n = count_below-same (λ i. f (m + i)) g n h in
    rw (← e) (omega (arith, parts, same))

pub count_below-more : (f : ℕ → Bool) (m n k : ℕ) → m + n ≡ k → ((i : ℕ) → i < n → f (m + i) ≡ true) → count_below f k ≡ count_below f m + n
count_below-more f m n k e h = count_below-stretch f (λ i. true) m n k e h ∙ ap (λ x. count_below f m + x) (count_below-all (λ i. true) n (λ i l. refl))

pub count_below-stays : (f : ℕ → Bool) (m n k : ℕ) → m + n ≡ k → ((i : ℕ) → i < n → f (m + i) ≡ false) → count_below f k ≡ count_below f m
count_below-stays f m n k e h = count_below-stretch f (λ i. false) m n k e h ∙ ap (λ x. count_below f m + x) (count_below-none (λ i. false) n (λ i l. refl)) ∙ add-zero (count_below f m)
