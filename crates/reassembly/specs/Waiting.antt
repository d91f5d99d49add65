-- Only for proofs. The runs of a stream that wait, as they stand in a map.
use Rattle.std.specs.Prelude.{◌≡◌, ◌⊎◌, ℕ, ◌-◌, ◌<◌, ◌≤◌, List, length, map, Some, None}
use Rattle.std.specs.Ordering.{nat_cmp}
use Rattle.std.specs.BTreeMap.{BTreeMap, IsOrdered, get}
use Rattle.std.specs.BTreeMap.Range.{entries_between}
use Rattle.std.specs.declared.ops.Bound.TheVariants.{Included}
use Rattle.reassembly.specs.declared.runs.Run.{Run}
use Rattle.reassembly.specs.declared.waiting.Runs.{Runs}
use Rattle.reassembly.specs.Runs.{run_at, AreOrdered}

abbrev pub run_of : ℕ × ℕ → Run
run_of entry = record { start = entry.0; end = entry.1 }

-- the runs in order
abbrev pub runs_of : Runs → List Run
runs_of r = map run_of r.map.entries

-- one of the runs is this one
pub record HasItem (runs : List Run) (run : Run) : Type 0 where
  pub at : ℕ
  pub within : at < length runs
  pub is : run_at runs at ≡ run

-- one of the runs that wait is this one
abbrev pub HasRun : Runs → Run → Type 0
HasRun r run = HasItem (runs_of r) run

-- each of the runs that wait is so
abbrev pub EachRun : Runs → (Run → Type 0) → Type 0
EachRun r IsSo = (run : Run) → HasRun r run → IsSo run

-- those of them that begin at `from` or above it, and at high or below it
abbrev pub begun_between : Runs → ℕ → ℕ → List Run
begun_between r from high = map run_of (entries_between nat_cmp (Included from) (Included high) r.map.entries)

-- the run overlaps the positions from low to below high, or ends or begins where they begin or end
pub record Touches (low high : ℕ) (run : Run) : Type 0 where
  pub from : run.start ≤ high
  pub to : low ≤ run.end

-- the runs that touch those positions
pub record IsMet (runs : List Run) (low high : ℕ) (met : List Run) : Type 0 where
  pub ordered : AreOrdered met
  pub all : (run : Run) → HasItem runs run → Touches low high run → HasItem met run
  pub only : (run : Run) → HasItem met run → HasItem runs run × Touches low high run

-- the positions from low to below high joined with the runs that they meet
pub record IsJoined (met : List Run) (low high : ℕ) (run : Run) : Type 0 where
  pub from : run.start ≤ low
  pub to : high ≤ run.end
  pub takes_in : (k : ℕ) → k < length met → (run.start ≤ (run_at met k).start) × ((run_at met k).end ≤ run.end)
  pub start : (run.start ≡ low) ⊎ ((0 < length met) × (run.start ≡ (run_at met 0).start))
  pub end : (run.end ≡ high) ⊎ ((0 < length met) × (run.end ≡ (run_at met (length met - 1)).end))

-- those of the first n runs are taken away that begin above the start
pub record IsThinned (old new : BTreeMap ℕ ℕ) (start : ℕ) (met : List Run) (n : ℕ) : Type 0 where
  pub sorted : IsOrdered nat_cmp new
  pub low : (q : ℕ) → q ≤ start → get nat_cmp new q ≡ get nat_cmp old q
  pub only : (q v : ℕ) → get nat_cmp new q ≡ Some v → get nat_cmp old q ≡ Some v
  pub gone : (j : ℕ) → j < n → start < (run_at met j).start → get nat_cmp new (run_at met j).start ≡ None
  pub stays : (q v : ℕ) → get nat_cmp old q ≡ Some v → ((j : ℕ) → j < n → (run_at met j).start ≡ q → ⊥) → get nat_cmp new q ≡ Some v
