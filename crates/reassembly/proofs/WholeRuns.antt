-- The runs of a range: no more positions than the range has, and each run kept whole.
use Rattle.std.proofs.Common.{◌≡◌, ℕ, zero, suc, ◌+◌, ◌≤◌, Bool, true, false, cond, Some, None, Option, List, [], ◌∷◌, length, refl, sym, ap, subst, ◌∙◌, arith, add-one}
use Rattle.std.specs.Prelude.{nat_eq}
use Rattle.std.specs.List.{AllByRecursion}
use Rattle.std.proofs.lemmas.List.Elements.{All-from_recursion}
use Rattle.std.proofs.lemmas.List.Sums.{sum_by-cons}
use Rattle.std.proofs.lemmas.Bool.Decides.{nat_tests}
use Rattle.reassembly.specs.Kept.{byte_then, bytes_from, join_run, run_then, runs_from, positions_in, AreWhole}

-- how many positions a run has
abbrev size_of : ℕ × ℕ → ℕ
size_of run = run.1

size_join : (p : ℕ) (runs : List (ℕ × ℕ)) → positions_in (join_run p runs) ≡ positions_in runs + 1
size_join p [] = refl
size_join p (run ∷ runs) =
    let whole : positions_in (run ∷ runs) ≡ run.1 + positions_in runs = sum_by-cons size_of run runs in
    let joined : positions_in ((p, run.1 + 1) ∷ runs) ≡ (run.1 + 1) + positions_in runs = sum_by-cons size_of (p, run.1 + 1) runs in
    let apart : positions_in ((p, 1) ∷ run ∷ runs) ≡ 1 + positions_in (run ∷ runs) = sum_by-cons size_of (p, 1) (run ∷ runs) in
    elim (nat_eq run.0 (p + 1)) as (λ b. positions_in (cond b ((p, run.1 + 1) ∷ runs) ((p, 1) ∷ run ∷ runs)) ≡ positions_in (run ∷ runs) + 1) [
      | true ↦ omega (arith, whole, joined)
      | false ↦ omega (arith, apart)
    ]

size_then : (b : Option ℕ) (p : ℕ) (runs : List (ℕ × ℕ)) (n : ℕ) → positions_in runs ≤ n → positions_in (run_then b p runs) ≤ suc n
size_then (Some b) p runs n h = omega (arith, h, size_join p runs)
size_then None p runs n h = omega (arith, h)

pub few_positions : (at : ℕ → Option ℕ) (n p : ℕ) → positions_in (runs_from at p n) ≤ n
few_positions at zero p = omega arith
few_positions at (suc n) p = size_then (at p) p (runs_from at (p + 1) n) n (few_positions at n (p + 1))

-- each run is kept whole, by recursion
abbrev Whole : (ℕ → Option ℕ) → List (ℕ × ℕ) → Type 0
Whole at runs = AllByRecursion (λ (run : ℕ × ℕ). length (bytes_from at run.0 run.1) ≡ run.1) runs

one_whole : (at : ℕ → Option ℕ) (p b : ℕ) → at p ≡ Some b → length (bytes_from at p 1) ≡ 1
one_whole at p b is = ap (λ o. length (byte_then o [])) is

more_whole : (at : ℕ → Option ℕ) (p b n : ℕ) → at p ≡ Some b → length (bytes_from at (p + 1) n) ≡ n → length (bytes_from at p (n + 1)) ≡ n + 1
more_whole at p b n is h =
    ap (λ k. length (bytes_from at p k)) (add-one n) ∙ ap (λ o. length (byte_then o (bytes_from at (p + 1) n))) is ∙ ap suc h ∙ sym (add-one n)

whole_by : (at : ℕ → Option ℕ) (p b : ℕ) (run : ℕ × ℕ) (runs : List (ℕ × ℕ)) (near : Bool) → nat_eq run.0 (p + 1) ≡ near → at p ≡ Some b → Whole at (run ∷ runs)
    → Whole at (cond near ((p, run.1 + 1) ∷ runs) ((p, 1) ∷ run ∷ runs))
whole_by at p b run runs true here is all =
    let place : run.0 ≡ p + 1 = grind (arith, nat_tests) in
    (more_whole at p b run.1 is (subst (λ q. length (bytes_from at q run.1) ≡ run.1) place all.0), all.1)
whole_by at p b run runs false here is all = (one_whole at p b is, all)

whole_join : (at : ℕ → Option ℕ) (p b : ℕ) (runs : List (ℕ × ℕ)) → at p ≡ Some b → Whole at runs → Whole at (join_run p runs)
whole_join at p b [] is all = (one_whole at p b is, tt)
whole_join at p b (run ∷ runs) is all = whole_by at p b run runs (nat_eq run.0 (p + 1)) refl is all

whole_then : (at : ℕ → Option ℕ) (o : Option ℕ) (p : ℕ) (runs : List (ℕ × ℕ)) → at p ≡ o → Whole at runs → Whole at (run_then o p runs)
whole_then at (Some b) p runs is all = whole_join at p b runs is all
whole_then at None p runs is all = all

whole_by_steps : (at : ℕ → Option ℕ) (n p : ℕ) → Whole at (runs_from at p n)
whole_by_steps at zero p = tt
whole_by_steps at (suc n) p = whole_then at (at p) p (runs_from at (p + 1) n) refl (whole_by_steps at n (p + 1))

pub whole_runs : (at : ℕ → Option ℕ) (n p : ℕ) → AreWhole at (runs_from at p n)
whole_runs at n p = All-from_recursion (λ (run : ℕ × ℕ). length (bytes_from at run.0 run.1) ≡ run.1) (runs_from at p n) (whole_by_steps at n p)
