-- Only for proofs. The accepted positions above next, as runs.
use Rattle.std.specs.Prelude.{◌≡◌, ℕ, ◌<◌, ◌≤◌, Bool, ◌&&◌, ◌||◌, nat_le, nat_lt, List, length, slice_index_or}
use Rattle.std.specs.List.{list_any}
use Rattle.reassembly.specs.declared.runs.Run.{Run}

-- the run at an index
abbrev pub run_at : List Run → ℕ → Run
run_at runs k = slice_index_or runs k (record { start = 0; end = 0 })

abbrev pub covers : ℕ → Run → Bool
covers p run = nat_le run.start p && nat_lt p run.end

-- some run has the position
abbrev pub is_covered : List Run → ℕ → Bool
is_covered runs p = list_any (covers p) runs

-- below next, or in a run
abbrev pub is_accepted : ℕ → List Run → ℕ → Bool
is_accepted next runs p = nat_lt p next || is_covered runs p

-- the positions of a set are those that it had, and those from low to below high
abbrev pub Gains : (ℕ → Bool) → (ℕ → Bool) → ℕ → ℕ → Type 0
Gains old new low high = (p : ℕ) → new p ≡ (old p || (nat_le low p && nat_lt p high))

-- each number of this kind that bounded the old bounds the new
abbrev pub KeepsBounds : {S : Type 0} (Kind : ℕ → Type 0) (Bounds : S → ℕ → Type 0) (old new : S) → Type 0
KeepsBounds Kind Bounds old new = (m : ℕ) → Kind m → Bounds old m → Bounds new m

-- no run is empty, and each begins above the end of those before it
pub record AreOrdered (runs : List Run) : Type 0 where
  pub filled : (k : ℕ) → k < length runs → (run_at runs k).start < (run_at runs k).end
  pub apart : (j k : ℕ) → j < k → k < length runs → (run_at runs j).end < (run_at runs k).start

-- the first k runs end at p or below, the others above
pub record IsCursor (runs : List Run) (k p : ℕ) : Type 0 where
  pub within : k ≤ length runs
  pub before : (j : ℕ) → j < k → (run_at runs j).end ≤ p
  pub after : (j : ℕ) → k ≤ j → j < length runs → p < (run_at runs j).end

-- each run begins above m
pub record AreAbove (runs : List Run) (m : ℕ) : Type 0 where
  pub each : (k : ℕ) → k < length runs → m < (run_at runs k).start

-- each run ends at m or below it
pub record AreWithin (runs : List Run) (m : ℕ) : Type 0 where
  pub each : (k : ℕ) → k < length runs → (run_at runs k).end ≤ m
