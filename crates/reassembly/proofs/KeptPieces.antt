-- The longest runs of a range, one after another.
use Rattle.std.proofs.Common.{◌≡◌, ℕ, ◌+◌, ◌<◌, ◌≤◌, zero, suc, true, false, cond, refl, ap, ap₂, ◌∙◌, sym, arith, List, [], ◌∷◌, Option, Some, None, is_some, eqb, eq-eqb, true≢false}
use Rattle.std.proofs.lemmas.Bool.{ne_eqb}
use Rattle.reassembly.specs.Kept.{join_run, run_then, runs_from}

run_then_none : (c : Option ℕ) (p : ℕ) (runs : List (ℕ × ℕ)) → is_some c ≡ false → run_then c p runs ≡ runs
run_then_none None p runs e = refl
run_then_none (Some x) p runs e = absurd (true≢false e)

run_then_some : (c : Option ℕ) (p : ℕ) (runs : List (ℕ × ℕ)) → is_some c ≡ true → run_then c p runs ≡ join_run p runs
run_then_some None p runs e = absurd (true≢false (sym e))
run_then_some (Some x) p runs e = refl

-- k positions that aren't kept
pub runs_skip : (at : ℕ → Option ℕ) (k m n p q : ℕ) → k + m ≡ n → p + k ≡ q → ((x : ℕ) → p ≤ x → x < q → is_some (at x) ≡ false) → runs_from at p n ≡ runs_from at q m
runs_skip at zero m n p q e f none = ap₂ (runs_from at) (let s : p ≡ q = omega arith in s) (let s : n ≡ m = omega arith in s)
runs_skip at (suc k) m zero p q e f none = absurd (omega arith)
runs_skip at (suc k) m (suc n) p q e f none =
    run_then_none (at p) p (runs_from at (p + 1) n) (none p (omega arith) (omega arith))
    ∙ runs_skip at k m n (p + 1) q (omega arith) (omega arith) (λ x l h. none x (omega arith) h)

pub runs_none : (at : ℕ → Option ℕ) (n p : ℕ) → ((x : ℕ) → p ≤ x → x < p + n → is_some (at x) ≡ false) → runs_from at p n ≡ []
runs_none at n p none = runs_skip at n 0 n p (p + n) (omega arith) refl none

-- the first run, if there is one, begins at p or past it
abbrev BeginFrom : ℕ → List (ℕ × ℕ) → Type 0
BeginFrom p [] = Unit {0}
BeginFrom p (run ∷ runs) = p ≤ run.0

begin_later : (p q : ℕ) (runs : List (ℕ × ℕ)) → q ≤ p → BeginFrom p runs → BeginFrom q runs
begin_later p q [] l h = tt
begin_later p q (run ∷ runs) l h = omega (arith, h)

begin_joined : (p : ℕ) (runs : List (ℕ × ℕ)) → BeginFrom p (join_run p runs)
begin_joined p [] = omega arith
begin_joined p (run ∷ runs) = elim (eqb run.0 (p + 1)) as (λ b. BeginFrom p (cond b ((p, run.1 + 1) ∷ runs) ((p, 1) ∷ run ∷ runs))) [ true ↦ omega arith | false ↦ omega arith ]

begin_from : (at : ℕ → Option ℕ) (n p : ℕ) → BeginFrom p (runs_from at p n)
begin_from at zero p = tt
begin_from at (suc n) p = elim (at p) as (λ c. BeginFrom p (run_then c p (runs_from at (p + 1) n))) [
  | Some b ↦ begin_joined p (runs_from at (p + 1) n)
  | None ↦ begin_later (p + 1) p (runs_from at (p + 1) n) (omega arith) (begin_from at n (p + 1))
]

-- a run that begins further on isn't joined
join_apart : (p : ℕ) (runs : List (ℕ × ℕ)) → BeginFrom (p + 2) runs → join_run p runs ≡ (p, 1) ∷ runs
join_apart p [] h = refl
join_apart p (run ∷ runs) h = let e : eqb run.0 (p + 1) ≡ false = ne_eqb run.0 (p + 1) (λ s. omega (arith, h, s)) in rw e refl

join_next : (p k : ℕ) (runs : List (ℕ × ℕ)) → join_run p ((p + 1, k) ∷ runs) ≡ (p, k + 1) ∷ runs
join_next p k runs = rw (eq-eqb (p + 1) (p + 1) refl) refl

-- k kept positions, and then one that isn't, or the end of the range
pub runs_first : (at : ℕ → Option ℕ) (k m n p q : ℕ) → suc k + m ≡ n → p + suc k ≡ q → ((x : ℕ) → p ≤ x → x < q → is_some (at x) ≡ true) → (0 < m → is_some (at q) ≡ false)
    → runs_from at p n ≡ (p, suc k) ∷ runs_from at q m
runs_first at k m zero p q e f some stops = absurd (omega arith)
runs_first at zero zero (suc n) p q e f some stops =
    let none : n ≡ 0 = omega arith in
    run_then_some (at p) p (runs_from at (p + 1) n) (some p (omega arith) (omega arith)) ∙ ap (λ i. join_run p (runs_from at (p + 1) i)) none
runs_first at zero (suc m) (suc n) p q e f some stops =
    let same : n ≡ suc m = omega arith in
    let next : p + 1 ≡ q = omega arith in
    let rest : runs_from at q (suc m) ≡ runs_from at (q + 1) m = run_then_none (at q) q (runs_from at (q + 1) m) (stops (omega arith)) in
    run_then_some (at p) p (runs_from at (p + 1) n) (some p (omega arith) (omega arith))
    ∙ ap₂ (λ a b. join_run p (runs_from at a b)) next same
    ∙ ap (join_run p) rest
    ∙ join_apart p (runs_from at (q + 1) m) (begin_later (q + 1) (p + 2) (runs_from at (q + 1) m) (omega arith) (begin_from at m (q + 1)))
    ∙ ap (λ runs. (p, 1) ∷ runs) (sym rest)
runs_first at (suc k) m (suc n) p q e f some stops =
    let rest : runs_from at (p + 1) n ≡ (p + 1, suc k) ∷ runs_from at q m = runs_first at k m n (p + 1) q (omega arith) (omega arith) (λ x l h. some x (omega arith) h) stops in
    run_then_some (at p) p (runs_from at (p + 1) n) (some p (omega arith) (omega arith))
    ∙ ap (join_run p) rest ∙ join_next p (suc k) (runs_from at q m)
    ∙ ap (λ i. (p, i) ∷ runs_from at q m) (let s : suc k + 1 ≡ suc (suc k) = omega arith in s)

pub runs_first_of : (at : ℕ → Option ℕ) (k m n p q : ℕ) → 0 < k → k + m ≡ n → p + k ≡ q → ((x : ℕ) → p ≤ x → x < q → is_some (at x) ≡ true) → (0 < m → is_some (at q) ≡ false)
    → runs_from at p n ≡ (p, k) ∷ runs_from at q m
runs_first_of at zero m n p q l e f some stops = absurd (omega arith)
runs_first_of at (suc k) m n p q l e f some stops = runs_first at k m n p q e f some stops
