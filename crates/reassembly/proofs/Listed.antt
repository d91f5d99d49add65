-- The runs of a map as a list: what a search of the map finds is one of them.
use Rattle.std.proofs.Common.{◌≡◌, ℕ, ◌+◌, ◌-◌, ◌<◌, ◌≤◌, suc, zero, min, Bool, cond, true, false, refl, ap, ◌∙◌, sym, arith, List, [], ◌∷◌, length, map, get_or, take, drop, length-take, length-drop, get_or-take, get_or-drop, Some, Contains, lt-ltb, le-ltb, eq-eqb, ⊎_elim}
use Rattle.std.specs.Prelude.{is_some, IsSome, slice_get}
use Rattle.std.specs.List.{filter}
use Rattle.std.specs.declared.ops.Bound.TheVariants.{Included}
use Rattle.std.specs.BTreeMap.Range.{range_contains, entries_between}
use Rattle.std.specs.declared.cmp.Ordering.TheVariants.{Less}
use Rattle.std.specs.Ordering.{nat_cmp, is_gt}
use Rattle.std.specs.Cmp.{nat_cmp_total}
use Rattle.std.specs.Map.{keys_of}
use Rattle.std.specs.BTreeMap.{BTreeMap, IsOrdered, get, is_at}
use Rattle.std.proofs.lemmas.Cmp.{ranked}
use Rattle.std.proofs.lemmas.Map.Entries.{length-keys_of}
use Rattle.std.proofs.lemmas.Map.Keys.{below_from_sorted, le_from_not_gt}
use Rattle.std.proofs.lemmas.Map.Lookups.{exact_unsigned}
use Rattle.std.proofs.lemmas.Map.Views.{btree_map_get_iff, IsInRange-from_range_contains, range_contains-from_IsInRange}
use Rattle.std.proofs.lemmas.Bool.{cases_lt, ne_eqb}
use Rattle.reassembly.specs.declared.runs.Run.{Run}
use Rattle.reassembly.specs.Runs.{run_at, is_covered, AreOrdered}
use Rattle.reassembly.specs.Waiting.{run_of, HasItem, IsMet}
use Rattle.reassembly.proofs.Covered.{uncovered, starts_rise}

pub run_at-map : (es : List (ℕ × ℕ)) (k : ℕ) (d : ℕ × ℕ) → k < length es → run_at (map run_of es) k ≡ run_of (get_or es k d)
run_at-map [] k d l = absurd (omega arith)
run_at-map (e ∷ es) zero d l = refl
run_at-map (e ∷ es) (suc k) d l = run_at-map es k d (omega arith)

pub length-runs : (es : List (ℕ × ℕ)) → length (map run_of es) ≡ length es
length-runs [] = refl
length-runs (e ∷ es) = ap suc (length-runs es)

pub item_of_entry : (es : List (ℕ × ℕ)) (e : ℕ × ℕ) → Contains es e → HasItem (map run_of es) (run_of e)
item_of_entry es e has = record {
  at = has.0;
  within = rw (length-runs es) has.1;
  is = run_at-map es has.0 e has.1 ∙ ap run_of has.2;
}

pub entry_of_item : (es : List (ℕ × ℕ)) (run : Run) → HasItem (map run_of es) run → Contains es (run.start, run.end)
entry_of_item es run item =
    let within : item.at < length es = rw (length-runs es) at item.within in
    let same : run_of (get_or es item.at (run.start, run.end)) ≡ run = sym (run_at-map es item.at (run.start, run.end) within) ∙ item.is in
    (item.at, within, ap (λ (r : Run). (r.start, r.end)) same)

pub found : (m : BTreeMap ℕ ℕ) → IsOrdered nat_cmp m → (s e : ℕ) → get nat_cmp m s ≡ Some e → HasItem (map run_of m.entries) (run_of (s, e))
found m ordered s e is = item_of_entry m.entries (s, e) ((btree_map_get_iff nat_cmp_total exact_unsigned m ordered s e).0 is)

pub looked_up : (m : BTreeMap ℕ ℕ) → IsOrdered nat_cmp m → (run : Run) → HasItem (map run_of m.entries) run → get nat_cmp m run.start ≡ Some run.end
looked_up m ordered run item = (btree_map_get_iff nat_cmp_total exact_unsigned m ordered run.start run.end).1 (entry_of_item m.entries run item)

pub has_key : (m : BTreeMap ℕ ℕ) → IsOrdered nat_cmp m → (run : Run) → HasItem (map run_of m.entries) run → IsSome (get nat_cmp m run.start)
has_key m ordered run item = ap is_some (looked_up m ordered run item)

-- the order of numbers
pub not_gt : (a b : ℕ) → a ≤ b → is_gt (nat_cmp a b) ≡ false
not_gt a b l = ⊎_elim
    (λ (below : a < b). rw (lt-ltb a b below) refl)
    (λ (over : b ≤ a). let same : a ≡ b = omega arith in rw (le-ltb a b over, eq-eqb a b same) refl)
    (cases_lt a b)

pub less : (a b : ℕ) → a < b → nat_cmp a b ≡ Less
less a b l = rw (lt-ltb a b l) refl

pub below_of_less : (a b : ℕ) → nat_cmp a b ≡ Less → a < b
below_of_less a b e = ranked a b Less (sym e)

pub same_key : (k q : ℕ) → k ≡ q → is_at (nat_cmp k) q ≡ true
same_key k q e = rw (le-ltb k q (omega arith), eq-eqb k q e) refl

pub other_key : (k q : ℕ) → (k ≡ q → ⊥) → is_at (nat_cmp k) q ≡ false
other_key k q other = ⊎_elim
    (λ (below : k < q). rw (lt-ltb k q below) refl)
    (λ (over : q ≤ k). rw (le-ltb k q over, ne_eqb k q other) refl)
    (cases_lt k q)

-- keys in order
pub starts_apart : (m : BTreeMap ℕ ℕ) → IsOrdered nat_cmp m → (j k : ℕ) → j < k → k < length (map run_of m.entries) → (run_at (map run_of m.entries) j).start < (run_at (map run_of m.entries) k).start
starts_apart m ordered j k l w =
    let len = length-runs m.entries in
    let keys : length (keys_of m.entries) ≡ length m.entries = length-keys_of m.entries in
    let below : get_or (keys_of m.entries) j 0 < get_or (keys_of m.entries) k 0 = below_from_sorted (keys_of m.entries) j k 0 ordered l (omega arith) in
    let at : (i : ℕ) → i < length m.entries → get_or (keys_of m.entries) i 0 ≡ (run_at (map run_of m.entries) i).start = λ i b.
    key_at m.entries i b in
    rw (← at j (omega arith), ← at k (omega arith)) below
  where
    key_at : (es : List (ℕ × ℕ)) (i : ℕ) → i < length es → get_or (keys_of es) i 0 ≡ (run_at (map run_of es) i).start
    key_at [] i b = absurd (omega arith)
    key_at (e ∷ es) zero b = refl
    key_at (e ∷ es) (suc i) b = key_at es i (omega arith)

-- no run covers a position, if none of those that begin at it or below it ends above it
pub none_covers : (runs : List Run) (p : ℕ) → ((run : Run) → HasItem runs run → run.start ≤ p → run.end ≤ p) → is_covered runs p ≡ false
none_covers runs p ends = uncovered runs p (λ h.
    let from : (run_at runs h.at).start ≤ p = h.from in
    let below : p < (run_at runs h.at).end = h.below in
    let e : (run_at runs h.at).end ≤ p = ends (run_at runs h.at) (record { at = h.at; within = h.within; is = refl }) from in
    omega arith)

-- of two runs of a list in order, the one that begins below the other ends below it, and each has some position
pub items_apart : (runs : List Run) → AreOrdered runs → (a b : Run) → HasItem runs a → HasItem runs b → a.start < b.start → a.end < b.start
items_apart runs ordered a b ha hb l = ⊎_elim
    (λ (before : ha.at < hb.at).
    let apart : (run_at runs ha.at).end < (run_at runs hb.at).start = ordered.apart ha.at hb.at before hb.within in
    rw (ha.is, hb.is) at apart)
    (λ (after : hb.at ≤ ha.at).
    let rise : (run_at runs hb.at).start ≤ (run_at runs ha.at).start = starts_rise runs hb.at ha.at ordered after ha.within in
    let order : b.start ≤ a.start = rw (hb.is, ha.is) at rise in
    absurd (omega arith))
    (cases_lt ha.at hb.at)

pub item_filled : (runs : List Run) → AreOrdered runs → (a : Run) → HasItem runs a → a.start < a.end
item_filled runs ordered a ha =
    let filled : (run_at runs ha.at).start < (run_at runs ha.at).end = ordered.filled ha.at ha.within in
    rw ha.is at filled

-- runs that begin at one place are one
pub items_same : (runs : List Run) → AreOrdered runs → (a b : Run) → HasItem runs a → HasItem runs b → a.start ≡ b.start → a ≡ b
items_same runs ordered a b ha hb e =
    let sa : (run_at runs ha.at).start ≡ a.start = ap (λ (r : Run). r.start) ha.is in
    let sb : (run_at runs hb.at).start ≡ b.start = ap (λ (r : Run). r.start) hb.is in
    ⊎_elim
    (λ (before : ha.at < hb.at).
    let apart : (run_at runs ha.at).end < (run_at runs hb.at).start = ordered.apart ha.at hb.at before hb.within in
    let filled : (run_at runs ha.at).start < (run_at runs ha.at).end = ordered.filled ha.at ha.within in
    absurd (omega arith))
    (λ (after : hb.at ≤ ha.at). ⊎_elim
    (λ (over : hb.at < ha.at).
    let apart : (run_at runs hb.at).end < (run_at runs ha.at).start = ordered.apart hb.at ha.at over ha.within in
    let filled : (run_at runs hb.at).start < (run_at runs hb.at).end = ordered.filled hb.at hb.within in
    absurd (omega arith))
    (λ (under : ha.at ≤ hb.at). let same : ha.at ≡ hb.at = omega arith in sym ha.is ∙ ap (run_at runs) same ∙ hb.is)
    (cases_lt hb.at ha.at))
    (cases_lt ha.at hb.at)

pub first_start : (es rest : List (ℕ × ℕ)) (e f : ℕ × ℕ) → es ≡ e ∷ rest → slice_get es 0 ≡ Some f → e.0 ≡ f.0
first_start es rest e f is first = ap (λ (p : ℕ × ℕ). p.0) (let same : e ≡ f = cc (ap (λ (xs : List (ℕ × ℕ)). slice_get xs 0) is) in same)

-- a part of a list in order is in order
pub part_ordered : (es : List (ℕ × ℕ)) (i n : ℕ) → AreOrdered (map run_of es) → AreOrdered (map run_of (take n (drop i es)))
part_ordered es i n ordered =
    let runs = map run_of es in
    let part : List (ℕ × ℕ) = take n (drop i es) in
    let all = length-runs es in
    let some = length-runs part in
    let cut : length part ≡ min n (length (drop i es)) = length-take n (drop i es) in
    let rest : length (drop i es) ≡ length es - i = length-drop i es in
    let at : (k : ℕ) → k < length (map run_of part) → run_at (map run_of part) k ≡ run_at runs (i + k) = λ k l.
    run_at-map part k (0, 0) (omega arith)
    ∙ ap run_of (get_or-take n (drop i es) k (0, 0) (omega arith) ∙ get_or-drop i es k (0, 0))
    ∙ sym (run_at-map es (i + k) (0, 0) (omega arith)) in
    record {
      filled = λ k l. rw (at k l) (ordered.filled (i + k) (omega arith));
      apart = λ j k l w. rw (at j (omega arith), at k w) (ordered.apart (i + j) (i + k) (omega arith) (omega arith));
    }

-- what a filter keeps
pub kept_item : (test : ℕ × ℕ → Bool) (es : List (ℕ × ℕ)) (run : Run) → HasItem (map run_of es) run → test (run.start, run.end) ≡ true → HasItem (map run_of (filter test es)) run
kept_item test [] run item passes = let w : item.at < 0 = item.within in absurd (omega arith)
kept_item test (e ∷ es) run item passes = at_place (λ it. kept_item test es run it passes) item.at item.within item.is
  where
    at_place : (HasItem (map run_of es) run → HasItem (map run_of (filter test es)) run) → (k : ℕ) → k < suc (length (map run_of es))
        → run_at (run_of e ∷ map run_of es) k ≡ run → HasItem (map run_of (filter test (e ∷ es))) run
    at_place later zero l is =
        let same : e ≡ (run.start, run.end) = ap (λ (r : Run). (r.start, r.end)) is in
        let yes : test e ≡ true = ap test same ∙ passes in
        rw yes (record { at = 0; within = omega arith; is = is })
    at_place later (suc k) l is =
        let rest = later (record { at = k; within = omega arith; is = is }) in
        elim (test e) as (λ b. HasItem (map run_of (cond b (e ∷ filter test es) (filter test es))) run) [
          | true ↦ record { at = suc rest.at; within = (let w : rest.at < length (map run_of (filter test es)) = rest.within in omega arith); is = rest.is }
          | false ↦ rest
        ]

pub record IsKept (test : ℕ × ℕ → Bool) (es : List (ℕ × ℕ)) (run : Run) : Type 0 where
  pub item : HasItem (map run_of es) run
  pub passes : test (run.start, run.end) ≡ true

kept_later : (test : ℕ × ℕ → Bool) (e : ℕ × ℕ) (es : List (ℕ × ℕ)) (run : Run) → IsKept test es run → IsKept test (e ∷ es) run
kept_later test e es run kept = record {
  item = record { at = suc kept.item.at; within = (let w : kept.item.at < length (map run_of es) = kept.item.within in omega arith); is = kept.item.is };
  passes = kept.passes;
}

pub kept_from : (test : ℕ × ℕ → Bool) (es : List (ℕ × ℕ)) (run : Run) → HasItem (map run_of (filter test es)) run → IsKept test es run
kept_from test [] run item = let w : item.at < 0 = item.within in absurd (omega arith)
kept_from test (e ∷ es) run item = by_test (λ it. kept_later test e es run (kept_from test es run it)) (test e) refl item
  where
    at_place : (HasItem (map run_of (filter test es)) run → IsKept test (e ∷ es) run) → (k : ℕ) → test e ≡ true
        → k < suc (length (map run_of (filter test es))) → run_at (run_of e ∷ map run_of (filter test es)) k ≡ run → IsKept test (e ∷ es) run
    at_place later zero t l is =
        let same : e ≡ (run.start, run.end) = ap (λ (r : Run). (r.start, r.end)) is in
        record { item = record { at = 0; within = omega arith; is = is }; passes = ap test (sym same) ∙ t }
    at_place later (suc k) t l is = later (record { at = k; within = omega arith; is = is })

    by_test : (HasItem (map run_of (filter test es)) run → IsKept test (e ∷ es) run) → (b : Bool) → test e ≡ b
        → HasItem (map run_of (cond b (e ∷ filter test es) (filter test es))) run → IsKept test (e ∷ es) run
    by_test later true is item = at_place later item.at is item.within item.is
    by_test later false is item = later item

-- the runs between the first that may touch and high are those that touch
pub met_between : (es : List (ℕ × ℕ)) (first low high : ℕ) → AreOrdered (map run_of es) → first ≤ low
    → ((run : Run) → HasItem (map run_of es) run → run.start < first → run.end < low)
    → ((run : Run) → HasItem (map run_of es) run → first ≤ run.start → run.start ≤ low → low ≤ run.end)
    → AreOrdered (map run_of (entries_between nat_cmp (Included first) (Included high) es))
    → IsMet (map run_of es) low high (map run_of (entries_between nat_cmp (Included first) (Included high) es))
met_between es first low high ordered from before after sorted =
    let test : ℕ × ℕ → Bool = λ e. range_contains nat_cmp (Included first) (Included high) e.0 in
    record {
      ordered = sorted;
      all = λ run item touches.
          let to : low ≤ run.end = touches.to in
          let start : first ≤ run.start = ⊎_elim
          (λ (l : run.start < first). let b : run.end < low = before run item l in absurd (omega arith))
          (λ (l : first ≤ run.start). l)
          (cases_lt run.start first) in
          kept_item test es run item (range_contains-from_IsInRange nat_cmp_total (Included first) (Included high) run.start (not_gt first run.start start, not_gt run.start high touches.from));
      only = λ run item.
          let kept = kept_from test es run item in
          let within = IsInRange-from_range_contains nat_cmp_total (Included first) (Included high) run.start kept.passes in
          let start : first ≤ run.start = le_from_not_gt first run.start within.0 in
          let end : run.start ≤ high = le_from_not_gt run.start high within.1 in
          let filled : run.start < run.end = item_filled (map run_of es) ordered run kept.item in
          (kept.item, record { from = end; to = ⊎_elim (λ (l : low < run.start). omega arith) (λ (l : run.start ≤ low). after run kept.item start l) (cases_lt low run.start) });
    }
