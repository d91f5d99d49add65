-- The first deadline of a book, and what it says of each name.
use Rattle.std.proofs.Common.{◌≡◌, ◌==◌, ◌&&◌, ◌<◌, ℕ, Bool, true, false, refl, sym, ap, ◌∙◌, true≢false, Option, None, Some, List, [], ◌∷◌, length, arith}
use Rattle.std.specs.declared.cmp.Ordering.{Ordering}
use Rattle.std.specs.declared.cmp.Ordering.TheVariants.{Less, Equal, Greater}
use Rattle.std.specs.Ordering.{nat_cmp, ordering_then, is_gt}
use Rattle.std.specs.Cmp.{ranked}
use Rattle.std.proofs.lemmas.Bool.Decides.{nat_tests}
use Rattle.std.specs.FinMap as map
use Rattle.std.specs.List.{list_any}
use Rattle.std.specs.BTreeMap.{BTreeMap, get, is_at}
use Rattle.std.specs.BTreeSet.{BTreeSet, contains, btree_set_len, IsLowerBound}
use Rattle.flow_timers.specs.declared.book.Noted.{Noted}
use Rattle.flow_timers.specs.declared.moment.Moment.{Moment}
use Rattle.flow_timers.specs.declared.deadline.Deadline.{Deadline}
use Rattle.flow_timers.specs.Moments.{comes_after, is_idle}
use Rattle.flow_timers.specs.Notes.{Notes, due_second, is_idle_at, is_idle_in, IsLeast}
use Rattle.flow_timers.specs.Deadlines.{deadline_of, order, is_deadline, AreDeadlines}
use Rattle.flow_timers.proofs.Entries.{found_is}

-- what comes after no deadline comes after no later one
later_too : (s f t g u h : ℕ) (r : Ordering) → comes_after s f t g ≡ false
    → is_gt (ordering_then (nat_cmp t u) (ordering_then (nat_cmp g h) r)) ≡ false → comes_after s f u h ≡ false
later_too s f t g u h r past least = by (nat_cmp t u) (nat_cmp g h) refl refl least
  where
    by : (o p : Ordering) → nat_cmp t u ≡ o → nat_cmp g h ≡ p → is_gt (ordering_then o (ordering_then p r)) ≡ false → comes_after s f u h ≡ false
    by Less p e q least = let x : t < u = ranked t u Less (sym e) in grind (arith, nat_tests, x, past)
    by Equal Less e q least = let x : t ≡ u = ranked t u Equal (sym e) in let y : g < h = ranked g h Less (sym q) in grind (arith, nat_tests, x, y, past)
    by Equal Equal e q least = let x : t ≡ u = ranked t u Equal (sym e) in let y : g ≡ h = ranked g h Equal (sym q) in grind (arith, nat_tests, x, y, past)
    by Equal Greater e q least = absurd (true≢false least)
    by Greater p e q least = absurd (true≢false least)

-- the numbers that a test finds equal
both_same : (a b c d : ℕ) → (a == b && c == d) ≡ true → (a ≡ b) × (c ≡ d)
both_same a b c d h = (grind (arith, nat_tests, h), grind (arith, nat_tests, h))

-- what is noted where a deadline is kept
noted_at : (r : Option Noted) (d : Deadline) → is_deadline d r ≡ true → (noted : Noted) × (r ≡ Some noted) × (d ≡ deadline_of d.name noted)
noted_at None d h = absurd (true≢false (sym h))
noted_at (Some noted) d h =
    let e = both_same d.seconds (due_second noted) d.fraction noted.last.fraction h in
    (noted, refl, λ i. record { seconds = e.0 i; fraction = e.1 i; name = d.name })

same_number : (n : ℕ) → (n == n) ≡ true
same_number n = grind (arith, nat_tests)

none_of_none : (test : Deadline → Bool) (ds : List Deadline) → length ds ≡ 0 → list_any test ds ≡ false
none_of_none test [] none = refl
none_of_none test (d ∷ ds) none = absurd (omega (arith, none))

-- a book of notes, with the names and the deadlines that it keeps
module _ (noted : BTreeMap ℕ Noted) (kept : BTreeSet Deadline) (inside : AreDeadlines noted kept) (notes : Notes) (seen : map.from_entries noted.entries ≡ notes) where
  found : (name : ℕ) → map.get notes name ≡ get nat_cmp noted name
  found name = ap (λ n. map.get n name) (sym seen) ∙ found_is noted name

  kept_for : (name : ℕ) (b : Noted) → get nat_cmp noted name ≡ Some b → contains order kept (deadline_of name b) ≡ true
  kept_for name b e =
      inside (deadline_of name b) ∙ ap (is_deadline (deadline_of name b)) e
      ∙ (λ i. same_number (due_second b) i && same_number b.last.fraction i)

  none_idle_if : (now : Moment) → ((d : Deadline) → contains order kept d ≡ true → comes_after now.seconds now.fraction d.seconds d.fraction ≡ false)
      → (name : ℕ) → is_idle_in notes now name ≡ false
  unfolding is_idle
  none_idle_if now past name = ap (is_idle_at now) (found name) ∙ by (get nat_cmp noted name) refl
    where
      by : (r : Option Noted) → get nat_cmp noted name ≡ r → is_idle_at now r ≡ false
      by None e = refl
      by (Some b) e = past (deadline_of name b) (kept_for name b e)

  -- no deadline, and no name that is idle
  pub none_kept : (now : Moment) → btree_set_len kept ≡ 0 → (name : ℕ) → is_idle_in notes now name ≡ false
  none_kept now none = none_idle_if now (λ d there. absurd (true≢false (sym there ∙ none_of_none (is_at (order d)) kept.keys none)))

  module _ (now : Moment) (first : Deadline) where
    pub none_past : IsLowerBound order kept first → comes_after now.seconds now.fraction first.seconds first.fraction ≡ false
        → (name : ℕ) → is_idle_in notes now name ≡ false
    none_past least ahead = none_idle_if now (λ d there.
        later_too now.seconds now.fraction first.seconds first.fraction d.seconds d.fraction (nat_cmp first.name d.name) ahead (least d there))

    noted_first : contains order kept first ≡ true → (b : Noted) × (get nat_cmp noted first.name ≡ Some b) × (first ≡ deadline_of first.name b)
    noted_first there = noted_at (get nat_cmp noted first.name) first (sym (inside first) ∙ there)

    pub first_idle : contains order kept first ≡ true → comes_after now.seconds now.fraction first.seconds first.fraction ≡ true
        → is_idle_in notes now first.name ≡ true
    unfolding is_idle
    first_idle there past =
        let n = noted_first there in
        ap (is_idle_at now) (found first.name ∙ n.1)
        ∙ ap (λ (d : Deadline). comes_after now.seconds now.fraction d.seconds d.fraction) (sym n.2) ∙ past

    pub first_least : contains order kept first ≡ true → IsLowerBound order kept first → IsLeast notes first.name
    first_least there least =
        let n = noted_first there in (
          n.0,
          found first.name ∙ n.1,
          λ other b e.
              ap (λ (d : Deadline). is_gt (order d (deadline_of other b))) (sym n.2)
              ∙ least (deadline_of other b) (kept_for other b (sym (found other) ∙ e)),
        )
