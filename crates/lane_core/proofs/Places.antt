-- Laws on the place of the open connection of a key.
use Rattle.std.proofs.Common.{◌≡◌, ℕ, zero, suc, ◌<◌, Bool, true, false, Option, Some, None, List, [], ◌∷◌, ◌++◌, length, get_or, set, refl, sym, ap, subst, ◌∙◌, arith}
use Rattle.std.specs.Prelude.{if◌then◌else◌, MatchBool}
use Rattle.app_api.specs.App.{Meaning}
use Rattle.forest_versions.specs.State.{ControlState}
use Rattle.lane_core.specs.Records.{VersionedPacket, RecordSoFar, belongs_to, started_by, continued_by, placed}
use Rattle.lane_core.specs.Places.{further, place_by, IsSingle}

-- no record passes where there is no place
pub none_here : (b : Bool) (o : Option ℕ) → (if b then Some 0 else further o) ≡ None → (b ≡ false) × (o ≡ None)
none_here true o e = absurd (cc)
none_here false None e = (refl, refl)
none_here false (Some i) e = absurd (cc)

module _ (app : Meaning) (control_at : ℕ → ControlState) where
  -- a packet that no record takes begins one
  pub placed-new : (s : VersionedPacket) (pasts : List RecordSoFar) → place_by (belongs_to s.arrival.sight) pasts ≡ None → placed app control_at s pasts ≡ pasts ++ started_by app control_at s ∷ []
  unfolding placed place_by
  placed-new s [] none = refl
  placed-new s (past ∷ pasts) none =
      let here = none_here (belongs_to s.arrival.sight past) (place_by (belongs_to s.arrival.sight) pasts) none in
      rw here.0 (ap (λ l. past ∷ l) (placed-new s pasts here.1))

  -- a packet that a record takes changes that record alone
  pub record Joins (s : VersionedPacket) (pasts : List RecordSoFar) (i : ℕ) : Type 0 where
    pub within : i < length pasts
    pub changed : (d : RecordSoFar) → placed app control_at s pasts ≡ set pasts i (continued_by app control_at s.arrival (get_or pasts i d))

  joins_here : (s : VersionedPacket) (past : RecordSoFar) (pasts : List RecordSoFar) (b : Bool) (o : Option ℕ) (i : ℕ)
      → belongs_to s.arrival.sight past ≡ b → place_by (belongs_to s.arrival.sight) pasts ≡ o
      → ((k : ℕ) → o ≡ Some k → Joins s pasts k) → (if b then Some 0 else further o) ≡ Some i → Joins s (past ∷ pasts) i
  unfolding placed
  joins_here s past pasts true o zero is there later e = record { within = omega arith; changed = λ d. rw is refl }
  joins_here s past pasts true o (suc i) is there later e = absurd (cc)
  joins_here s past pasts false None i is there later e = absurd (cc)
  joins_here s past pasts false (Some k) zero is there later e = absurd (cc)
  joins_here s past pasts false (Some k) (suc i) is there later e =
      let same : k ≡ i = cc in
      let rest = later k refl in
      let within : suc k < length (past ∷ pasts) = let below = rest.within in omega arith in
      subst (Joins s (past ∷ pasts)) (ap suc same) (record { within = within; changed = λ d. rw is (ap (λ l. past ∷ l) (rest.changed d)) })

  pub joins : (s : VersionedPacket) (pasts : List RecordSoFar) (i : ℕ) → place_by (belongs_to s.arrival.sight) pasts ≡ Some i → Joins s pasts i
  unfolding place_by
  joins s [] i e = absurd (cc)
  joins s (past ∷ pasts) i e =
      joins_here s past pasts (belongs_to s.arrival.sight past) (place_by (belongs_to s.arrival.sight) pasts) i refl refl (joins s pasts) e

-- where nothing passes there is no place
pub place_by-never : (test : RecordSoFar → Bool) (pasts : List RecordSoFar) → ((past : RecordSoFar) → test past ≡ false) → place_by test pasts ≡ None
unfolding place_by
place_by-never test [] never = refl
place_by-never test (past ∷ pasts) never = rw (never past) (ap further (place_by-never test pasts never))

-- the place in a list with one record more
abbrev pub place_with : Option ℕ → Bool → ℕ → Option ℕ
place_with (Some i) passes n = Some i
place_with None passes n = if passes then Some n else None

further-place_with : (o : Option ℕ) (b : Bool) (n : ℕ) → further (place_with o b n) ≡ place_with (further o) b (suc n)
further-place_with (Some i) b n = refl
further-place_with None true n = refl
further-place_with None false n = refl

append_here : (b : Bool) (o : Option ℕ) (c : Bool) (n : ℕ) (after : Option ℕ) → after ≡ place_with o c n
    → (if b then Some 0 else further after) ≡ place_with (if b then Some 0 else further o) c (suc n)
append_here true o c n after e = refl
append_here false o c n after e = ap further e ∙ further-place_with o c n

pub place_by-append : (test : RecordSoFar → Bool) (pasts : List RecordSoFar) (past : RecordSoFar)
    → place_by test (pasts ++ past ∷ []) ≡ place_with (place_by test pasts) (test past) (length pasts)
unfolding place_by
place_by-append test [] past = refl
place_by-append test (first ∷ pasts) past = append_here (test first) (place_by test pasts) (test past) (length pasts) (place_by test (pasts ++ past ∷ [])) (place_by-append test pasts past)

-- a record that passes as the one in its place did
pub place_by-set : (test : RecordSoFar → Bool) (pasts : List RecordSoFar) (i : ℕ) (past d : RecordSoFar) → i < length pasts → test past ≡ test (get_or pasts i d)
    → place_by test (set pasts i past) ≡ place_by test pasts
unfolding place_by
place_by-set test [] i past d within same = absurd (omega arith)
place_by-set test (first ∷ pasts) zero past d within same = rw same refl
place_by-set test (first ∷ pasts) (suc i) past d within same =
    let below : i < length pasts = omega arith in
    ap (λ o. if test first then Some 0 else further o) (place_by-set test pasts i past d below same)

-- ---- at most one record passes

single_at_false : (b : Bool) (A B : Type 0) → b ≡ false → B → MatchBool b A B
single_at_false true A B e m = absurd (cc)
single_at_false false A B e m = m

-- where none passes, at most one does
pub IsSingle-none : (test : RecordSoFar → Bool) (pasts : List RecordSoFar) → place_by test pasts ≡ None → IsSingle test pasts
unfolding place_by IsSingle
IsSingle-none test [] none = tt
IsSingle-none test (past ∷ pasts) none =
    let here = none_here (test past) (place_by test pasts) none in
    single_at_false (test past) _ _ here.0 (IsSingle-none test pasts here.1)

append_single : (b : Bool) (o : Option ℕ) (c : Bool) (n : ℕ) (after : Option ℕ) (R S : Type 0) → after ≡ place_with o c n → MatchBool b (o ≡ None) R
    → (c ≡ true → (if b then Some 0 else further o) ≡ None) → (R → (c ≡ true → o ≡ None) → S) → MatchBool b (after ≡ None) S
append_single true o true n after R S is single new later = absurd (let e = new refl in cc)
append_single true o false n after R S is single new later = is ∙ rw single refl
append_single false o c n after R S is single new later = later single (λ e. (none_here false o (new e)).1)

-- one record more, which passes only where none did
pub IsSingle-append : (test : RecordSoFar → Bool) (pasts : List RecordSoFar) (past : RecordSoFar) → IsSingle test pasts
    → (test past ≡ true → place_by test pasts ≡ None) → IsSingle test (pasts ++ past ∷ [])
unfolding place_by IsSingle
IsSingle-append test [] past single new = elim (test past) as (λ b. MatchBool b (place_by test [] ≡ None) (Unit {0})) [ true ↦ refl | false ↦ tt ]
IsSingle-append test (first ∷ pasts) past single new =
    append_single (test first) (place_by test pasts) (test past) (length pasts) (place_by test (pasts ++ past ∷ [])) _ _
    (place_by-append test pasts past) single new (λ rest none. IsSingle-append test pasts past rest none)

cleared_here : (test : RecordSoFar → Bool) (first : RecordSoFar) (pasts : List RecordSoFar) (past : RecordSoFar) (b : Bool) (o : Option ℕ) (i : ℕ) → test first ≡ b → place_by test pasts ≡ o
    → MatchBool b (o ≡ None) (IsSingle test pasts) → (if b then Some 0 else further o) ≡ Some i → test past ≡ false
    → ((k : ℕ) → IsSingle test pasts → o ≡ Some k → place_by test (set pasts k past) ≡ None) → place_by test (set (first ∷ pasts) i past) ≡ None
unfolding place_by
cleared_here test first pasts past true o zero is there single e fails later = rw fails (ap further (there ∙ single))
cleared_here test first pasts past true o (suc i) is there single e fails later = absurd (cc)
cleared_here test first pasts past false None i is there single e fails later = absurd (cc)
cleared_here test first pasts past false (Some k) zero is there single e fails later = absurd (cc)
cleared_here test first pasts past false (Some k) (suc i) is there single e fails later =
    let same : k ≡ i = cc in
    rw is (ap further (subst (λ j. place_by test (set pasts j past) ≡ None) same (later k single refl)))

-- a record that passes no more
pub place_by-cleared : (test : RecordSoFar → Bool) (pasts : List RecordSoFar) (i : ℕ) (past : RecordSoFar) → IsSingle test pasts → place_by test pasts ≡ Some i → test past ≡ false
    → place_by test (set pasts i past) ≡ None
unfolding place_by IsSingle
place_by-cleared test [] i past single there fails = absurd (cc)
place_by-cleared test (first ∷ pasts) i past single there fails =
    cleared_here test first pasts past (test first) (place_by test pasts) i refl refl single there fails (λ k s e. place_by-cleared test pasts k past s e fails)

within_here : (b : Bool) (o : Option ℕ) (i n : ℕ) → (if b then Some 0 else further o) ≡ Some i → ((k : ℕ) → o ≡ Some k → k < n) → i < suc n
within_here true o zero n e later = omega arith
within_here true o (suc i) n e later = absurd (cc)
within_here false None i n e later = absurd (cc)
within_here false (Some k) zero n e later = omega arith
within_here false (Some k) (suc i) n e later = let same : k ≡ i = cc in let below = later k refl in omega arith

passes_here : (test : RecordSoFar → Bool) (past : RecordSoFar) (pasts : List RecordSoFar) (d : RecordSoFar) (b : Bool) (o : Option ℕ) (i : ℕ) → test past ≡ b
    → (if b then Some 0 else further o) ≡ Some i → ((k : ℕ) → o ≡ Some k → test (get_or pasts k d) ≡ true) → test (get_or (past ∷ pasts) i d) ≡ true
passes_here test past pasts d true o zero is e later = is
passes_here test past pasts d true o (suc i) is e later = absurd (cc)
passes_here test past pasts d false None i is e later = absurd (cc)
passes_here test past pasts d false (Some k) zero is e later = absurd (cc)
passes_here test past pasts d false (Some k) (suc i) is e later =
    let same : k ≡ i = cc in subst (λ j. test (get_or pasts j d) ≡ true) same (later k refl)

set_here : (b c : Bool) (o : Option ℕ) (S : Type 0) → MatchBool b (o ≡ None) S → (c ≡ true → b ≡ true) → (o ≡ None → S) → MatchBool c (o ≡ None) S
set_here true true o S single less later = single
set_here false true o S single less later = absurd (let e = less refl in cc)
set_here true false o S single less later = later single
set_here false false o S single less later = single

set_later : (b : Bool) (o after : Option ℕ) (S T : Type 0) → MatchBool b (o ≡ None) S → (o ≡ None → after ≡ None) → (S → T) → MatchBool b (after ≡ None) T
set_later true o after S T single none rest = none single
set_later false o after S T single none rest = rest single

fails_with : (c b : Bool) → (c ≡ true → b ≡ true) → b ≡ false → c ≡ false
fails_with true b less fails = absurd (let e = less refl in cc)
fails_with false b less fails = refl

-- what stands at the place of the first record that passes
pub place_by-within : (test : RecordSoFar → Bool) (pasts : List RecordSoFar) (i : ℕ) → place_by test pasts ≡ Some i → i < length pasts
unfolding place_by
place_by-within test [] i there = absurd (cc)
place_by-within test (past ∷ pasts) i there = within_here (test past) (place_by test pasts) i (length pasts) there (λ k e. place_by-within test pasts k e)

pub place_by-passes : (test : RecordSoFar → Bool) (pasts : List RecordSoFar) (i : ℕ) (d : RecordSoFar) → place_by test pasts ≡ Some i → test (get_or pasts i d) ≡ true
unfolding place_by
place_by-passes test [] i d there = absurd (cc)
place_by-passes test (past ∷ pasts) i d there = passes_here test past pasts d (test past) (place_by test pasts) i refl there (λ k e. place_by-passes test pasts k d e)

pub place_by-fails : (test : RecordSoFar → Bool) (pasts : List RecordSoFar) (i : ℕ) (d : RecordSoFar) → place_by test pasts ≡ None → i < length pasts → test (get_or pasts i d) ≡ false
unfolding place_by
place_by-fails test [] i d none within = absurd (omega arith)
place_by-fails test (past ∷ pasts) zero d none within = (none_here (test past) (place_by test pasts) none).0
place_by-fails test (past ∷ pasts) (suc i) d none within =
    let below : i < length pasts = omega arith in place_by-fails test pasts i d (none_here (test past) (place_by test pasts) none).1 below

-- a record that passes only where the one in its place did
pub IsSingle-set : (test : RecordSoFar → Bool) (pasts : List RecordSoFar) (i : ℕ) (past d : RecordSoFar) → IsSingle test pasts → i < length pasts → (test past ≡ true → test (get_or pasts i d) ≡ true)
    → IsSingle test (set pasts i past)
unfolding IsSingle
IsSingle-set test [] i past d single within less = absurd (omega arith)
IsSingle-set test (first ∷ pasts) zero past d single within less =
    set_here (test first) (test past) (place_by test pasts) (IsSingle test pasts) single less (IsSingle-none test pasts)
IsSingle-set test (first ∷ pasts) (suc i) past d single within less =
    let below : i < length pasts = omega arith in
    set_later (test first) (place_by test pasts) (place_by test (set pasts i past)) (IsSingle test pasts) (IsSingle test (set pasts i past)) single
    (λ none. let at = place_by-fails test pasts i d none below in
    place_by-set test pasts i past d below (fails_with (test past) (test (get_or pasts i d)) less at ∙ sym at) ∙ none)
    (λ rest. IsSingle-set test pasts i past d rest below less)
