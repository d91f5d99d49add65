-- Which positions the runs cover, told by indices.
use Rattle.std.proofs.Common.{◌≡◌, ℕ, ◌+◌, ◌<◌, ◌≤◌, suc, true, false, ap, arith, List, [], ◌∷◌, length, leb, ltb, le-leb, lt-ltb, leb-true, ltb-true, ⊎_elim}
use Rattle.std.proofs.lemmas.Bool.{cases_lt, and_from, and_parts, or_cases, false_from_ne_true, cases_eq}
use Rattle.std.proofs.lemmas.List.Folds.{list_any_at}
use Rattle.reassembly.specs.declared.runs.Run.{Run}
use Rattle.reassembly.specs.Runs.{run_at, covers, is_covered, AreOrdered, IsCursor}

-- a run has the position
pub covered_by : (runs : List Run) (k p : ℕ) → k < length runs → (run_at runs k).start ≤ p → p < (run_at runs k).end → is_covered runs p ≡ true
covered_by runs k p within from below =
    list_any_at (covers p) runs k (record { start = 0; end = 0 }) within
    (and_from (leb (run_at runs k).start p) (ltb p (run_at runs k).end) (le-leb (run_at runs k).start p from) (lt-ltb p (run_at runs k).end below))

-- the run that has it
pub record HasRun (runs : List Run) (p : ℕ) : Type 0 where
  pub at : ℕ
  pub within : at < length runs
  pub from : (run_at runs at).start ≤ p
  pub below : p < (run_at runs at).end

pub covering : (runs : List Run) (p : ℕ) → is_covered runs p ≡ true → HasRun runs p
covering [] p e = absurd (cc e)
covering (run ∷ runs) p e = ⊎_elim
    (λ (here : covers p run ≡ true).
    let both = and_parts (leb run.start p) (ltb p run.end) here in
    record { at = 0; within = omega arith; from = leb-true run.start p both.0; below = ltb-true p run.end both.1 })
    (λ (there : is_covered runs p ≡ true).
    let h = covering runs p there in
    record { at = suc h.at; within = let w : h.at < length runs = h.within in omega arith; from = h.from; below = h.below })
    (or_cases (covers p run) (is_covered runs p) e)

pub uncovered : (runs : List Run) (p : ℕ) → (HasRun runs p → ⊥) → is_covered runs p ≡ false
uncovered runs p none = false_from_ne_true (is_covered runs p) (λ e. none (covering runs p e))

-- between the runs that end at `from` or below it and the one that the cursor shows lies nothing
pub in_gap : (runs : List Run) (k from p : ℕ) → AreOrdered runs → IsCursor runs k from → from ≤ p → (k < length runs → p < (run_at runs k).start) → is_covered runs p ≡ false
in_gap runs k from p ordered cursor low gap = uncovered runs p (λ h. ⊎_elim
    (λ (l : h.at < k).
    let e : (run_at runs h.at).end ≤ from = cursor.before h.at l in
    let b : p < (run_at runs h.at).end = h.below in
    omega arith)
    (λ (l : k ≤ h.at).
    let w : h.at < length runs = h.within in
    let f : (run_at runs h.at).start ≤ p = h.from in
    let g : p < (run_at runs k).start = gap (omega arith) in
    ⊎_elim
    (λ (same : k ≡ h.at). let s : (run_at runs k).start ≡ (run_at runs h.at).start = ap (λ j. (run_at runs j).start) same in omega arith)
    (λ (other : k ≡ h.at → ⊥).
    let a : (run_at runs k).end < (run_at runs h.at).start = ordered.apart k h.at (omega arith) w in
    let f2 : (run_at runs k).start < (run_at runs k).end = ordered.filled k (omega arith) in
    omega arith)
    (cases_eq k h.at))
    (cases_lt h.at k))

-- ends rise with the index
pub ends_rise : (runs : List Run) (j k : ℕ) → AreOrdered runs → j ≤ k → k < length runs → (run_at runs j).end ≤ (run_at runs k).end
ends_rise runs j k ordered l w = ⊎_elim
    (λ (same : j ≡ k). let e : (run_at runs j).end ≡ (run_at runs k).end = ap (λ i. (run_at runs i).end) same in omega arith)
    (λ (other : j ≡ k → ⊥).
    let a : (run_at runs j).end < (run_at runs k).start = ordered.apart j k (omega arith) w in
    let f : (run_at runs k).start < (run_at runs k).end = ordered.filled k w in
    omega arith)
    (cases_eq j k)

pub starts_rise : (runs : List Run) (j k : ℕ) → AreOrdered runs → j ≤ k → k < length runs → (run_at runs j).start ≤ (run_at runs k).start
starts_rise runs j k ordered l w = ⊎_elim
    (λ (same : j ≡ k). let e : (run_at runs j).start ≡ (run_at runs k).start = ap (λ i. (run_at runs i).start) same in omega arith)
    (λ (other : j ≡ k → ⊥).
    let a : (run_at runs j).end < (run_at runs k).start = ordered.apart j k (omega arith) w in
    let f : (run_at runs j).start < (run_at runs j).end = ordered.filled j (omega arith) in
    omega arith)
    (cases_eq j k)

-- a cursor stays right up to the end of its run
pub cursor_stays : (runs : List Run) (k from end : ℕ) → AreOrdered runs → IsCursor runs k from → k < length runs → from ≤ end → end < (run_at runs k).end → IsCursor runs k end
cursor_stays runs k from end ordered cursor w l below = record {
  within = cursor.within;
  before = λ j b. let e : (run_at runs j).end ≤ from = cursor.before j b in omega arith;
  after = λ j b wj. let e : (run_at runs k).end ≤ (run_at runs j).end = ends_rise runs k j ordered b wj in omega arith;
}

-- and the next one is right from there on
pub cursor_next : (runs : List Run) (k from : ℕ) → AreOrdered runs → IsCursor runs k from → k < length runs → from ≤ (run_at runs k).end → IsCursor runs (k + 1) (run_at runs k).end
cursor_next runs k from ordered cursor w l = record {
  within = omega arith;
  before = λ j b. ends_rise runs j k ordered (omega arith) w;
  after = λ j b wj.
      let a : (run_at runs k).end < (run_at runs j).start = ordered.apart k j (omega arith) wj in
      let f : (run_at runs j).start < (run_at runs j).end = ordered.filled j wj in
      omega arith;
}
