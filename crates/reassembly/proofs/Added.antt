-- The runs after positions from low to below high were added: the joined run stands there for those that it met.
use Rattle.std.proofs.Common.{◌≡◌, ◌⊎◌, ℕ, ◌-◌, ◌<◌, ◌≤◌, Bool, cond, true, false, ◌&&◌, ◌||◌, refl, ap, ap₂, ◌∙◌, sym, arith, List, length, map, Some, leb, ltb, le-leb, lt-ltb, leb-true, ltb-true, inl, inr, ⊎_elim}
use Rattle.std.specs.Ordering.{nat_cmp}
use Rattle.std.specs.BTreeMap.{BTreeMap, IsOrdered, get, is_at}
use Rattle.std.proofs.lemmas.Bool.{cases_lt, cases_eq, and_from, and_parts, or_cases, or_left, or_right}
use Rattle.reassembly.specs.declared.runs.Run.{Run}
use Rattle.reassembly.specs.Runs.{run_at, is_covered, AreOrdered, AreAbove, AreWithin}
use Rattle.reassembly.specs.Waiting.{run_of, HasItem, Touches, IsMet, IsJoined, IsThinned}
use Rattle.reassembly.proofs.Covered.{covered_by, covering}
use Rattle.reassembly.proofs.Listed.{found, looked_up, same_key, other_key, starts_apart, items_apart, items_same, item_filled}

item_at : (runs : List Run) (k : ℕ) → k < length runs → HasItem runs (run_at runs k)
item_at runs k l = record { at = k; within = l; is = refl }

-- the new runs are the joined one, and the old ones that don't touch
pub record IsAdded (old new : List Run) (low high : ℕ) (run : Run) : Type 0 where
  pub sorted : (j k : ℕ) → j < k → k < length new → (run_at new j).start < (run_at new k).start
  pub here : HasItem new run
  pub kept : (r : Run) → HasItem old r → (Touches low high r → ⊥) → HasItem new r
  pub only : (r : Run) → HasItem new r → (r ≡ run) ⊎ (HasItem old r × (Touches low high r → ⊥))

-- what is joined begins where the positions begin, or with a run that it met, and ends so
pub record Begins (old : List Run) (low high : ℕ) (run : Run) : Type 0 where
  pub from : run.start ≤ low
  pub to : high ≤ run.end
  pub takes_in : (r : Run) → HasItem old r → Touches low high r → (run.start ≤ r.start) × (r.end ≤ run.end)
  pub start : (run.start ≡ low) ⊎ ((r : Run) × HasItem old r × Touches low high r × (run.start ≡ r.start))
  pub end : (run.end ≡ high) ⊎ ((r : Run) × HasItem old r × Touches low high r × (run.end ≡ r.end))

begins : (old met : List Run) (low high : ℕ) (run : Run) → IsMet old low high met → IsJoined met low high run → Begins old low high run
begins old met low high run is_met joined = record {
  from = joined.from;
  to = joined.to;
  takes_in = λ r item touches.
      let there = is_met.all r item touches in
      let both = joined.takes_in there.at there.within in
      rw there.is at both;
  start = ⊎_elim
      (λ (l : run.start ≡ low). inl l)
      (λ (f : (0 < length met) × (run.start ≡ (run_at met 0).start)). let it = is_met.only (run_at met 0) (item_at met 0 f.0) in inr (run_at met 0, it.0, it.1, f.1))
      joined.start;
  end = ⊎_elim
      (λ (l : run.end ≡ high). inl l)
      (λ (f : (0 < length met) × (run.end ≡ (run_at met (length met - 1)).end)). let it = is_met.only (run_at met (length met - 1))
      (item_at met (length met - 1) (omega arith)) in inr (run_at met (length met - 1), it.0, it.1, f.1))
      joined.end;
}

covers_item : (runs : List Run) (r : Run) (p : ℕ) → HasItem runs r → r.start ≤ p → p < r.end → is_covered runs p ≡ true
covers_item runs r p item from below = covered_by runs item.at p item.within (rw item.is from) (rw item.is below)

run_is : (a b : Run) → a.start ≡ b.start → a.end ≡ b.end → a ≡ b
run_is a b s e = ap₂ (λ x y. run_of (x, y)) s e

-- runs that begin where the joined one does touch
same_start : (old : List Run) (low high : ℕ) (run r : Run) → AreOrdered old → low < high → Begins old low high run → HasItem old r → r.start ≡ run.start → Touches low high r
same_start old low high run r ordered some b item e =
    let filled : r.start < r.end = item_filled old ordered r item in
    ⊎_elim
    (λ (l : run.start ≡ low). record { from = omega arith; to = omega arith })
    (λ (f : (s : Run) × HasItem old s × Touches low high s × (run.start ≡ s.start)). rw (items_same old ordered r f.0 item f.1 (e ∙ f.3)) f.2)
    b.start

pub added : (old ins new : BTreeMap ℕ ℕ) (met : List Run) (low high : ℕ) (run : Run) → IsOrdered nat_cmp old → AreOrdered (map run_of old.entries) → low < high
    → IsMet (map run_of old.entries) low high met → IsJoined met low high run
    → ((q : ℕ) → get nat_cmp ins q ≡ cond (is_at (nat_cmp run.start) q) (Some run.end) (get nat_cmp old q))
    → IsThinned ins new run.start met (length met)
    → IsAdded (map run_of old.entries) (map run_of new.entries) low high run
added old ins new met low high run sorted ordered some is_met joined inserted thin =
    let runs : List Run = map run_of old.entries in
    let b = begins runs met low high run is_met joined in
    let at_run : get nat_cmp ins run.start ≡ Some run.end = inserted run.start ∙ ap (λ c. cond c (Some run.end) (get nat_cmp old run.start)) (same_key run.start run.start refl) in
    let elsewhere : (q : ℕ) → (run.start ≡ q → ⊥) → get nat_cmp ins q ≡ get nat_cmp old q = λ q o. inserted q ∙ ap (λ c. cond c (Some run.end) (get nat_cmp old q)) (other_key run.start q o) in
    record {
      sorted = starts_apart new thin.sorted;
      here = found new thin.sorted run.start run.end (thin.low run.start (omega arith) ∙ at_run);
      kept = λ r item apart.
          let was : get nat_cmp old r.start ≡ Some r.end = looked_up old sorted r item in
          let other : run.start ≡ r.start → ⊥ = λ e. apart (same_start runs low high run r ordered some b item (sym e)) in
          found new thin.sorted r.start r.end (thin.stays r.start r.end (elsewhere r.start other ∙ was) (λ j l e.
          let it = is_met.only (run_at met j) (item_at met j l) in
          apart (rw (items_same runs ordered r (run_at met j) item it.0 (sym e)) it.1)));
      only = λ r item.
          let is : get nat_cmp new r.start ≡ Some r.end = looked_up new thin.sorted r item in
          let was : get nat_cmp ins r.start ≡ Some r.end = thin.only r.start r.end is in
          ⊎_elim
          (λ (same : run.start ≡ r.start).
          let end : run.end ≡ r.end = cc (sym at_run ∙ ap (get nat_cmp ins) same ∙ was) in
          inl (run_is r run (sym same) (sym end)))
          (λ (other : run.start ≡ r.start → ⊥).
          let there = found old sorted r.start r.end (sym (elsewhere r.start other) ∙ was) in
          inr (
            there,
            λ touches.
                let it = is_met.all r there touches in
                let over : run.start ≤ r.start = (b.takes_in r there touches).0 in
                let above : run.start < (run_at met it.at).start = rw it.is (omega arith) in
                absurd (cc (rw it.is at (thin.gone it.at it.within above), is)),
          ))
          (cases_eq run.start r.start);
    }

-- the runs are as they were taken for the results
pub record AreJoined (old new : List Run) (low high : ℕ) (run : Run) : Type 0 where
  pub ordered : AreOrdered old
  pub some : low < high
  pub begins : Begins old low high run
  pub added : IsAdded old new low high run

pub are_joined : (old ins new : BTreeMap ℕ ℕ) (met : List Run) (low high : ℕ) (run : Run) → IsOrdered nat_cmp old → AreOrdered (map run_of old.entries) → low < high
    → IsMet (map run_of old.entries) low high met → IsJoined met low high run
    → ((q : ℕ) → get nat_cmp ins q ≡ cond (is_at (nat_cmp run.start) q) (Some run.end) (get nat_cmp old q))
    → IsThinned ins new run.start met (length met)
    → AreJoined (map run_of old.entries) (map run_of new.entries) low high run
are_joined old ins new met low high run sorted ordered some is_met joined inserted thin = record {
  ordered = ordered;
  some = some;
  begins = begins (map run_of old.entries) met low high run is_met joined;
  added = added old ins new met low high run sorted ordered some is_met joined inserted thin;
}

apart_from : (old new : List Run) (low high : ℕ) (run a b : Run) → AreJoined old new low high run → a.start < b.start
    → (a ≡ run) ⊎ (HasItem old a × (Touches low high a → ⊥)) → (b ≡ run) ⊎ (HasItem old b × (Touches low high b → ⊥)) → a.end < b.start
apart_from old new low high run a b h l (inl ea) (inl eb) =
    let same : a.start ≡ b.start = ap (λ (r : Run). r.start) (ea ∙ sym eb) in
    absurd (omega arith)
apart_from old new low high run a b h l (inl ea) (inr kb) =
    let begins = h.begins in
    let start : a.start ≡ run.start = ap (λ (r : Run). r.start) ea in
    let end : a.end ≡ run.end = ap (λ (r : Run). r.end) ea in
    let filled : b.start < b.end = item_filled old h.ordered b kb.0 in
    ⊎_elim
    (λ (over : high < b.start). ⊎_elim
    (λ (e : run.end ≡ high). omega arith)
    (λ (f : (r : Run) × HasItem old r × Touches low high r × (run.end ≡ r.end)).
    let from : f.0.start ≤ high = f.2.from in
    let x : f.0.end < b.start = items_apart old h.ordered f.0 b f.1 kb.0 (omega arith) in
    let e : run.end ≡ f.0.end = f.3 in
    omega arith)
    begins.end)
    (λ (under : b.start ≤ high). ⊎_elim
    (λ (below : b.end < low). ⊎_elim
    (λ (e : run.start ≡ low). absurd (omega arith))
    (λ (f : (r : Run) × HasItem old r × Touches low high r × (run.start ≡ r.start)).
    let e : run.start ≡ f.0.start = f.3 in
    let x : f.0.end < b.start = items_apart old h.ordered f.0 b f.1 kb.0 (omega arith) in
    let to : low ≤ f.0.end = f.2.to in
    absurd (omega arith))
    begins.start)
    (λ (reach : low ≤ b.end). absurd (kb.1 (record { from = under; to = reach })))
    (cases_lt b.end low))
    (cases_lt high b.start)
apart_from old new low high run a b h l (inr ka) (inl eb) =
    let begins = h.begins in
    let some : low < high = h.some in
    let start : b.start ≡ run.start = ap (λ (r : Run). r.start) eb in
    let from : run.start ≤ low = begins.from in
    let below : a.end < low = ⊎_elim
    (λ (x : a.end < low). x)
    (λ (reach : low ≤ a.end). absurd (ka.1 (record { from = omega arith; to = reach })))
    (cases_lt a.end low) in
    ⊎_elim
    (λ (e : run.start ≡ low). omega arith)
    (λ (f : (r : Run) × HasItem old r × Touches low high r × (run.start ≡ r.start)).
    let e : run.start ≡ f.0.start = f.3 in
    let x : a.end < f.0.start = items_apart old h.ordered a f.0 ka.0 f.1 (omega arith) in
    omega arith)
    begins.start
apart_from old new low high run a b h l (inr ka) (inr kb) = items_apart old h.ordered a b ka.0 kb.0 l

pub added_ordered : (old new : List Run) (low high : ℕ) (run : Run) → AreJoined old new low high run → AreOrdered new
added_ordered old new low high run h = record {
  filled = λ k l. ⊎_elim
      (λ (e : run_at new k ≡ run).
      let some : low < high = h.some in
      let from : run.start ≤ low = h.begins.from in
      let to : high ≤ run.end = h.begins.to in
      rw e (omega arith))
      (λ (kept : HasItem old (run_at new k) × (Touches low high (run_at new k) → ⊥)). item_filled old h.ordered (run_at new k) kept.0)
      (h.added.only (run_at new k) (item_at new k l));
  apart = λ j k l w. apart_from old new low high run (run_at new j) (run_at new k) h (h.added.sorted j k l w)
      (h.added.only (run_at new j) (item_at new j (omega arith))) (h.added.only (run_at new k) (item_at new k w));
}

same_tests : (a b : Bool) → (a ≡ true → b ≡ true) → (b ≡ true → a ≡ true) → a ≡ b
same_tests true b f g = sym (f refl)
same_tests false true f g = g refl
same_tests false false f g = refl

-- whether a run touches
touching : (low high : ℕ) (r : Run) → Touches low high r ⊎ (Touches low high r → ⊥)
touching low high r = ⊎_elim
    (λ (over : high < r.start). inr (λ t. let f : r.start ≤ high = t.from in omega arith))
    (λ (from : r.start ≤ high). ⊎_elim
    (λ (below : r.end < low). inr (λ t. let f : low ≤ r.end = t.to in omega arith))
    (λ (to : low ≤ r.end). inl (record { from = from; to = to }))
    (cases_lt r.end low))
    (cases_lt high r.start)

pub added_covered : (old new : List Run) (low high : ℕ) (run : Run) → AreJoined old new low high run → (p : ℕ) → is_covered new p ≡ (is_covered old p || (leb low p && ltb p high))
added_covered old new low high run h p =
    let between : Bool = leb low p && ltb p high in
    let from : run.start ≤ low = h.begins.from in
    let to : high ≤ run.end = h.begins.to in
    let by_old : is_covered old p ≡ true → (is_covered old p || between) ≡ true = λ e. or_left (is_covered old p) between e in
    same_tests (is_covered new p) (is_covered old p || between)
    (λ e.
    let has = covering new p e in
    let start : (run_at new has.at).start ≤ p = has.from in
    let end : p < (run_at new has.at).end = has.below in
    ⊎_elim
    (λ (is : run_at new has.at ≡ run).
    let rs : (run_at new has.at).start ≡ run.start = ap (λ (r : Run). r.start) is in
    let re : (run_at new has.at).end ≡ run.end = ap (λ (r : Run). r.end) is in
    ⊎_elim
    (λ (below : p < low). ⊎_elim
    (λ (s : run.start ≡ low). absurd (omega arith))
    (λ (f : (r : Run) × HasItem old r × Touches low high r × (run.start ≡ r.start)).
    let s : run.start ≡ f.0.start = f.3 in
    let reach : low ≤ f.0.end = f.2.to in
    by_old (covers_item old f.0 p f.1 (omega arith) (omega arith)))
    h.begins.start)
    (λ (over : low ≤ p). ⊎_elim
    (λ (within : p < high). or_right (is_covered old p) between (and_from (leb low p) (ltb p high) (le-leb low p over) (lt-ltb p high within)))
    (λ (past : high ≤ p). ⊎_elim
    (λ (s : run.end ≡ high). absurd (omega arith))
    (λ (f : (r : Run) × HasItem old r × Touches low high r × (run.end ≡ r.end)).
    let s : run.end ≡ f.0.end = f.3 in
    let reach : f.0.start ≤ high = f.2.from in
    by_old (covers_item old f.0 p f.1 (omega arith) (omega arith)))
    h.begins.end)
    (cases_lt p high))
    (cases_lt p low))
    (λ (kept : HasItem old (run_at new has.at) × (Touches low high (run_at new has.at) → ⊥)). by_old (covers_item old (run_at new has.at) p kept.0 start end))
    (h.added.only (run_at new has.at) (item_at new has.at has.within)))
    (λ e. ⊎_elim
    (λ (was : is_covered old p ≡ true).
    let has = covering old p was in
    let start : (run_at old has.at).start ≤ p = has.from in
    let end : p < (run_at old has.at).end = has.below in
    let item = item_at old has.at has.within in
    ⊎_elim
    (λ (touches : Touches low high (run_at old has.at)).
    let inside = h.begins.takes_in (run_at old has.at) item touches in
    let a : run.start ≤ (run_at old has.at).start = inside.0 in
    let b : (run_at old has.at).end ≤ run.end = inside.1 in
    covers_item new run p h.added.here (omega arith) (omega arith))
    (λ (apart : Touches low high (run_at old has.at) → ⊥). covers_item new (run_at old has.at) p (h.added.kept (run_at old has.at) item apart) start end)
    (touching low high (run_at old has.at)))
    (λ (now : between ≡ true).
    let both = and_parts (leb low p) (ltb p high) now in
    let a : low ≤ p = leb-true low p both.0 in
    let b : p < high = ltb-true p high both.1 in
    covers_item new run p h.added.here (omega arith) (omega arith))
    (or_cases (is_covered old p) between e))

item_above : (runs : List Run) (m : ℕ) (r : Run) → AreAbove runs m → HasItem runs r → m < r.start
item_above runs m r above item = let a : m < (run_at runs item.at).start = above.each item.at item.within in rw item.is at a

item_within : (runs : List Run) (m : ℕ) (r : Run) → AreWithin runs m → HasItem runs r → r.end ≤ m
item_within runs m r within item = let a : (run_at runs item.at).end ≤ m = within.each item.at item.within in rw item.is at a

pub added_above : (old new : List Run) (low high : ℕ) (run : Run) → AreJoined old new low high run → (m : ℕ) → m < low → AreAbove old m → AreAbove new m
added_above old new low high run h m l above = record {
  each = λ k w. ⊎_elim
      (λ (e : run_at new k ≡ run). rw e (⊎_elim
      (λ (s : run.start ≡ low). omega arith)
      (λ (f : (r : Run) × HasItem old r × Touches low high r × (run.start ≡ r.start)). let a : m < f.0.start = item_above old m f.0 above f.1 in let s : run.start ≡ f.0.start = f.3 in omega arith)
      h.begins.start))
      (λ (kept : HasItem old (run_at new k) × (Touches low high (run_at new k) → ⊥)). item_above old m (run_at new k) above kept.0)
      (h.added.only (run_at new k) (item_at new k w));
}

pub added_within : (old new : List Run) (low high : ℕ) (run : Run) → AreJoined old new low high run → (m : ℕ) → high ≤ m → AreWithin old m → AreWithin new m
added_within old new low high run h m l within = record {
  each = λ k w. ⊎_elim
      (λ (e : run_at new k ≡ run). rw e (⊎_elim
      (λ (s : run.end ≡ high). omega arith)
      (λ (f : (r : Run) × HasItem old r × Touches low high r × (run.end ≡ r.end)). let a : f.0.end ≤ m = item_within old m f.0 within f.1 in let s : run.end ≡ f.0.end = f.3 in omega arith)
      h.begins.end))
      (λ (kept : HasItem old (run_at new k) × (Touches low high (run_at new k) → ⊥)). item_within old m (run_at new k) within kept.0)
      (h.added.only (run_at new k) (item_at new k w));
}
