-- The runs after the first was taken away, since it begins where the accepted positions end, or below.
use Rattle.std.proofs.Common.{◌≡◌, ℕ, ◌<◌, ◌≤◌, suc, max, true, false, ◌||◌, refl, ◌∙◌, sym, arith, List, ◌∷◌, leb, ltb, le-leb, lt-ltb, le-ltb, ⊎_elim}
use Rattle.std.proofs.lemmas.Bool.{cases_lt}
use Rattle.reassembly.specs.declared.runs.Run.{Run}
use Rattle.reassembly.specs.Runs.{is_covered, AreOrdered, AreWithin}

pub rest_ordered : (run : Run) (rest : List Run) → AreOrdered (run ∷ rest) → AreOrdered rest
rest_ordered run rest ordered = record {
  filled = λ k l. ordered.filled (suc k) (omega arith);
  apart = λ j k l w. ordered.apart (suc j) (suc k) (omega arith) (omega arith);
}

pub rest_within : (run : Run) (rest : List Run) (m : ℕ) → AreWithin (run ∷ rest) m → AreWithin rest m
rest_within run rest m within = record { each = λ k l. within.each (suc k) (omega arith) }

-- the positions below the end that has risen are those below the old one and those of the run
pub accepted_more : (run : Run) (rest : List Run) (end p : ℕ) → run.start ≤ end → (ltb p (max end run.end) || is_covered rest p) ≡ (ltb p end || is_covered (run ∷ rest) p)
accepted_more run rest end p from = ⊎_elim
    (λ (below : p < end).
    let a : ltb p end ≡ true = lt-ltb p end below in
    let b : ltb p (max end run.end) ≡ true = lt-ltb p (max end run.end) (omega arith) in
    rw (a, b) refl)
    (λ (over : end ≤ p).
    let a : ltb p end ≡ false = le-ltb p end over in
    let c : leb run.start p ≡ true = le-leb run.start p (omega arith) in
    let same : ltb p (max end run.end) ≡ ltb p run.end = ⊎_elim
    (λ (under : p < run.end). lt-ltb p (max end run.end) (omega arith) ∙ sym (lt-ltb p run.end under))
    (λ (past : run.end ≤ p). le-ltb p (max end run.end) (omega arith) ∙ sym (le-ltb p run.end past))
    (cases_lt p run.end) in
    rw (a, c, same) refl)
    (cases_lt p end)
