-- Only for proofs. Laws of the events that are raised, for any list of them.
use Rattle.std.proofs.Common.{◌≡◌, ℕ, ◌+◌, ◌<◌, ◌≤◌, ◌==◌, ◌&&◌, ◌||◌, Bool, true, false, List, [], ◌∷◌, ◌++◌, map, refl, sym, ap, subst, ◌∙◌, arith, append_assoc, append-nil}
use Rattle.std.specs.Prelude.{nat_le}
use Rattle.std.specs.List.{fold, list_any, list_all, AllByRecursion}
use Rattle.std.proofs.lemmas.Bool.{and_parts, and_from, or_from, leb-true, le-leb, eq-eqb, ne_eqb}
use Rattle.native_filters.specs.declared.facts.Facts.{Facts}
use Rattle.native_filters.specs.declared.facts.Hook.{Hook}
use Rattle.app_api.specs.Events.{START, allows_hook}
use Rattle.app_api.specs.Numbers.{rise_from}
use Rattle.builtin_events.specs.declared.raise.Raise.{Raise}
use Rattle.builtin_events.specs.Laws.{IsInOrder, IsAtItsSide, AreRaisedWhere}
use Rattle.builtin_events.specs.Raises.{raise_if, raised_where}

abbrev pub Row : Type 0
Row = Bool × ℕ

abbrev pub events_of : List Row → List ℕ
events_of rows = map (λ row. row.1) rows

-- ---- rows by rising number

-- whether an event is raised by these rows
abbrev hits : ℕ → List Row → Bool
hits event rows = list_any (λ row. row.0 && (row.1 == event)) rows

rises-lower : (low high : ℕ) (ns : List ℕ) → low ≤ high → rise_from high ns ≡ true → rise_from low ns ≡ true
rises-lower low high [] less rises = refl
rises-lower low high (n ∷ ns) less rises =
    let both = and_parts (nat_le high n) (rise_from (n + 1) ns) rises in
    and_from (nat_le low n) (rise_from (n + 1) ns) (le-leb low n (omega (arith, leb-true high n both.0))) both.1

hit : (b : Bool) (e event : ℕ) → e ≡ event → (b && (e == event)) ≡ b
hit true e event is = eq-eqb e event is
hit false e event is = refl

missed : (b : Bool) (e event : ℕ) → (e ≡ event → ⊥) → (b && (e == event)) ≡ false
missed true e event other = ne_eqb e event other
missed false e event other = refl

-- an event below others isn't raised by them
apart : (event low : ℕ) (rows : List Row) → event < low → rise_from low (events_of rows) ≡ true → hits event rows ≡ false
apart event low [] less rises = refl
apart event low (row ∷ rows) less rises =
    let both = and_parts (nat_le low row.1) (rise_from (row.1 + 1) (events_of rows)) rises in
    let past : low ≤ row.1 = leb-true low row.1 both.0 in
    or_from _ _ (missed row.0 row.1 event (λ is. absurd (omega (arith, is, past, less)))) (apart event (row.1 + 1) rows (omega (arith, past, less)) both.1)

none_else : (b : Bool) → (b || false) ≡ b
none_else true = refl
none_else false = refl

behind : (row : Row) (all some : List Row) (low : ℕ) → row.1 < low → rise_from low (events_of some) ≡ true
    → AllByRecursion (λ r. hits r.1 all ≡ r.0) some → AllByRecursion (λ r. hits r.1 (row ∷ all) ≡ r.0) some
behind row all [] low less rises each = tt
behind row all (r ∷ some) low less rises each =
    let both = and_parts (nat_le low r.1) (rise_from (r.1 + 1) (events_of some)) rises in
    let past : low ≤ r.1 = leb-true low r.1 both.0 in
    let other : (row.0 && (row.1 == r.1)) ≡ false = missed row.0 row.1 r.1 (λ is. absurd (omega (arith, is, past, less))) in
    (ap (λ (b : Bool). b || hits r.1 all) other ∙ each.0, behind row all some (r.1 + 1) (omega (arith, past, less)) both.1 each.1)

each_hits : (rows : List Row) (low : ℕ) → rise_from low (events_of rows) ≡ true → AllByRecursion (λ row. hits row.1 rows ≡ row.0) rows
each_hits [] low rises = tt
each_hits (row ∷ rows) low rises =
    let up = (and_parts (nat_le low row.1) (rise_from (row.1 + 1) (events_of rows)) rises).1 in
    let above : row.1 < row.1 + 1 = omega arith in
    let here : hits row.1 (row ∷ rows) ≡ row.0 =
    ap (λ (b : Bool). b || hits row.1 rows) (hit row.0 row.1 row.1 refl) ∙ (ap (λ (b : Bool). row.0 || b) (apart row.1 (row.1 + 1) rows above up) ∙ none_else row.0) in
    (here, behind row rows rows (row.1 + 1) above up (each_hits rows (row.1 + 1) up))

-- ---- what rows raise

module _ (hook : Hook) (facts : Facts) where
  abbrev pub raise_at : ℕ → Raise
  raise_at event = record { hook = hook; event = event; facts = facts }

  abbrev each_of : List Row → List Raise
  each_of [] = []
  each_of (row ∷ rows) = raise_if row.0 (raise_at row.1) ++ each_of rows

  from : (so_far : List Raise) (rows : List Row) → fold (λ raises row. raises ++ raise_if row.0 (raise_at row.1)) so_far rows ≡ so_far ++ each_of rows
  from so_far [] = sym (append-nil so_far)
  from so_far (row ∷ rows) =
      from (so_far ++ raise_if row.0 (raise_at row.1)) rows ∙ append_assoc so_far (raise_if row.0 (raise_at row.1)) (each_of rows)

  one_by_one : (rows : List Row) → each_of rows ≡ raised_where hook facts rows
  one_by_one rows = sym (from [] rows)

  -- the first, where it is always raised, and those behind it
  pub raised_first : (event : ℕ) (rows : List Row) → raised_where hook facts ((true, event) ∷ rows) ≡ raise_at event ∷ raised_where hook facts rows
  raised_first event rows = sym (one_by_one ((true, event) ∷ rows)) ∙ ap (λ raises. raise_at event ∷ raises) (one_by_one rows)

  joined : (xs ys : List Row) → each_of (xs ++ ys) ≡ each_of xs ++ each_of ys
  joined [] ys = refl
  joined (row ∷ xs) ys =
      ap (λ raises. raise_if row.0 (raise_at row.1) ++ raises) (joined xs ys) ∙ sym (append_assoc (raise_if row.0 (raise_at row.1)) (each_of xs) (each_of ys))

  -- one that is always raised, with those before it and behind it
  pub raised_around : (event : ℕ) (xs ys : List Row)
      → raised_where hook facts (xs ++ (true, event) ∷ ys) ≡ raised_where hook facts xs ++ raise_at event ∷ raised_where hook facts ys
  raised_around event xs ys =
      sym (one_by_one (xs ++ (true, event) ∷ ys)) ∙ joined xs ((true, event) ∷ ys)
      ∙ ap (λ raises. each_of xs ++ raise_at event ∷ raises) (one_by_one ys) ∙ ap (λ raises. raises ++ raise_at event ∷ raised_where hook facts ys) (one_by_one xs)

  all_if : (P : Raise → Type 0) (b : Bool) (event : ℕ) (raises : List Raise) → P (raise_at event) → AllByRecursion P raises → AllByRecursion P (raise_if b (raise_at event) ++ raises)
  all_if P true event raises one all = (one, all)
  all_if P false event raises one all = all

  all_each : (P : Raise → Type 0) (ok : ℕ → Bool) → ((event : ℕ) → ok event ≡ true → P (raise_at event)) → (rows : List Row) → list_all ok (events_of rows) ≡ true
      → AllByRecursion P (each_of rows)
  all_each P ok holds [] all = tt
  all_each P ok holds (row ∷ rows) all =
      let both = and_parts (ok row.1) (list_all ok (events_of rows)) all in
      all_if P row.0 row.1 (each_of rows) (holds row.1 both.0) (all_each P ok holds rows both.1)

  -- what holds of a raise of each of the events holds of all that is raised
  pub all_raised : (P : Raise → Type 0) (ok : ℕ → Bool) → ((event : ℕ) → ok event ≡ true → P (raise_at event)) → (rows : List Row) → list_all ok (events_of rows) ≡ true
      → AllByRecursion P (raised_where hook facts rows)
  all_raised P ok holds rows all = subst (AllByRecursion P) (one_by_one rows) (all_each P ok holds rows all)

  any_if : (test : Raise → Bool) (b : Bool) (event : ℕ) (raises : List Raise)
      → list_any test (raise_if b (raise_at event) ++ raises) ≡ ((b && test (raise_at event)) || list_any test raises)
  any_if test true event raises = refl
  any_if test false event raises = refl

  any_each : (test : Raise → Bool) (rows : List Row) → list_any test (each_of rows) ≡ list_any (λ row. row.0 && test (raise_at row.1)) rows
  any_each test [] = refl
  any_each test (row ∷ rows) = any_if test row.0 row.1 (each_of rows) ∙ ap (λ (b : Bool). (row.0 && test (raise_at row.1)) || b) (any_each test rows)

  any_raised : (test : Raise → Bool) (rows : List Row) → list_any test (raised_where hook facts rows) ≡ list_any (λ row. row.0 && test (raise_at row.1)) rows
  any_raised test rows = ap (list_any test) (sym (one_by_one rows)) ∙ any_each test rows

  raised_is : (all some : List Row) → AllByRecursion (λ row. hits row.1 all ≡ row.0) some → AreRaisedWhere some (raised_where hook facts all)
  raised_is all [] each = tt
  raised_is all (row ∷ some) each = (any_raised (λ r. r.event == row.1) all ∙ each.0, raised_is all some each.1)

  pub each_raised : (rows : List Row) → rise_from START (events_of rows) ≡ true → AreRaisedWhere rows (raised_where hook facts rows)
  each_raised rows rises = raised_is rows rows (each_hits rows START rises)

  rise_if : (b : Bool) (low event : ℕ) (raises : List Raise) → nat_le low event ≡ true → rise_from (event + 1) (map (λ r. r.event) raises) ≡ true
      → rise_from low (map (λ r. r.event) (raise_if b (raise_at event) ++ raises)) ≡ true
  rise_if true low event raises past rises = and_from (nat_le low event) (rise_from (event + 1) (map (λ r. r.event) raises)) past rises
  rise_if false low event raises past rises =
      rises-lower low (event + 1) (map (λ r. r.event) raises) (omega (arith, leb-true low event past)) rises

  rise_each : (low : ℕ) (rows : List Row) → rise_from low (events_of rows) ≡ true → rise_from low (map (λ r. r.event) (each_of rows)) ≡ true
  rise_each low [] rises = refl
  rise_each low (row ∷ rows) rises =
      let both = and_parts (nat_le low row.1) (rise_from (row.1 + 1) (events_of rows)) rises in
      rise_if row.0 low row.1 (each_of rows) both.0 (rise_each (row.1 + 1) rows both.1)

  pub order_raised : (rows : List Row) → rise_from START (events_of rows) ≡ true → IsInOrder (raised_where hook facts rows)
  order_raised rows rises = ap (λ raises. rise_from START (map (λ r. r.event) raises)) (sym (one_by_one rows)) ∙ rise_each START rows rises

  side_if : (b : Bool) (event : ℕ) (raises : List Raise) → allows_hook event hook ≡ true → IsAtItsSide raises → IsAtItsSide (raise_if b (raise_at event) ++ raises)
  side_if true event raises is all = and_from (allows_hook event hook) (list_all (λ r. allows_hook r.event r.hook) raises) is all
  side_if false event raises is all = all

  side_each : (rows : List Row) → list_all (λ event. allows_hook event hook) (events_of rows) ≡ true → IsAtItsSide (each_of rows)
  side_each [] all = refl
  side_each (row ∷ rows) all =
      let both = and_parts (allows_hook row.1 hook) (list_all (λ event. allows_hook event hook) (events_of rows)) all in
      side_if row.0 row.1 (each_of rows) both.0 (side_each rows both.1)

  pub side_raised : (rows : List Row) → list_all (λ event. allows_hook event hook) (events_of rows) ≡ true → IsAtItsSide (raised_where hook facts rows)
  side_raised rows all = subst IsAtItsSide (one_by_one rows) (side_each rows all)
