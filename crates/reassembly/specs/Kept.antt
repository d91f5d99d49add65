-- Reading the bytes that are kept. `at` gives the kept byte at a position.
use Rattle.std.specs.Prelude.{◌≡◌, ◌<◌, ◌≤◌, true, false, is_some, ℕ, zero, suc, ◌+◌, List, [], ◌∷◌, length, All, sum_by, Option, Some, None, nat_eq, if◌then◌else◌}

-- a kept byte goes before the rest of its run, and nothing follows a position that isn't kept
abbrev pub byte_then : Option ℕ → List ℕ → List ℕ
byte_then (Some b) rest = b ∷ rest
byte_then None rest = []

-- the run of kept bytes from p on, at most n of them
abbrev pub bytes_from : (ℕ → Option ℕ) → ℕ → ℕ → List ℕ
bytes_from at p zero = []
bytes_from at p (suc n) = byte_then (at p) (bytes_from at (p + 1) n)

-- the place and length of each longest run, put before those that follow: a position joins a run that begins behind it
abbrev pub join_run : ℕ → List (ℕ × ℕ) → List (ℕ × ℕ)
join_run p [] = (p, 1) ∷ []
join_run p (run ∷ runs) = if nat_eq run.0 (p + 1) then (p, run.1 + 1) ∷ runs else (p, 1) ∷ run ∷ runs

abbrev pub run_then : Option ℕ → ℕ → List (ℕ × ℕ) → List (ℕ × ℕ)
run_then (Some b) p runs = join_run p runs
run_then None p runs = runs

-- the longest runs of kept positions among the n from p on, in order
abbrev pub runs_from : (ℕ → Option ℕ) → ℕ → ℕ → List (ℕ × ℕ)
runs_from at p zero = []
runs_from at p (suc n) = run_then (at p) p (runs_from at (p + 1) n)

-- how many positions the runs have in all
abbrev pub positions_in : List (ℕ × ℕ) → ℕ
positions_in runs = sum_by (λ run. run.1) runs

-- each run is kept whole: from its place on as many bytes are read as it has positions
abbrev pub AreWhole : (ℕ → Option ℕ) → List (ℕ × ℕ) → Type 0
AreWhole at runs = All (λ run. length (bytes_from at run.0 run.1) ≡ run.1) runs

-- the positions from p to below e are kept, and e isn't: e is p where p isn't kept
pub record IsRunEnd (at : ℕ → Option ℕ) (p e : ℕ) : Type 0 where
  pub order : p ≤ e
  pub run : (x : ℕ) → p ≤ x → x < e → is_some (at x) ≡ true
  pub stops : is_some (at e) ≡ false

-- f is the first kept position from p on
pub record IsFirst (at : ℕ → Option ℕ) (p f : ℕ) : Type 0 where
  pub order : p ≤ f
  pub gap : (x : ℕ) → p ≤ x → x < f → is_some (at x) ≡ false
  pub here : is_some (at f) ≡ true

-- the first kept position from p on, or None where none is
abbrev pub IsFirstKept : (ℕ → Option ℕ) → ℕ → Option ℕ → Type 0
IsFirstKept at p None = (x : ℕ) → p ≤ x → is_some (at x) ≡ false
IsFirstKept at p (Some f) = IsFirst at p f
