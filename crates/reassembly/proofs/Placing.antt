-- A whole segment over the buffer: its bytes below next, those that are taken, those that come again past the limit, and those
-- past all that was accepted.
use Rattle.std.proofs.Common.{◌≡◌, ℕ, ◌+◌, ◌-◌, ◌<◌, ◌≤◌, min, max, Bool, true, false, cond, not, ◌&&◌, ◌||◌, refl, ap, ap₂, ◌∙◌, sym, arith, List, Option, Some, None, is_some, length, slice_index, take, drop, leb, ltb, eqb, le-leb, lt-ltb, le-ltb, ltb-true, leb-true, ◌⊎◌, ⊎_elim, inl, inr, get_or-take, get_or-drop, length-take-le}
use Rattle.std.proofs.lemmas.Bool.{cases_lt, lt-leb, and_right, and_from, and_parts, cases_Bool, cond-true, cond-false, false_from_ne_true, both_ways}
use Rattle.reassembly.specs.declared.answers.Policy.{Policy}
use Rattle.reassembly.specs.declared.laying.Judged.{Judged}
use Rattle.reassembly.specs.declared.runs.Run.{Run}
use Rattle.reassembly.specs.declared.window.Window.{Window}
use Rattle.reassembly.specs.Receiver.{held}
use Rattle.reassembly.specs.Segment.{is_old, is_new, is_beyond, is_differing, is_last, has_byte, held_after, count_below}
use Rattle.reassembly.specs.Runs.{run_at, is_accepted, is_covered, AreAbove}
use Rattle.reassembly.specs.Window.{end_of, byte_at, cell_at, kept_at, view_of, IsLaid, IsBounded, taken_cell, again_cell, taken_tally, differing_below}
use Rattle.reassembly.proofs.Cells.{held_made, held_made_past}
use Rattle.reassembly.proofs.Counts.{count_below-same, count_below-stretch, count_below-all, count_below-none}
use Rattle.reassembly.proofs.Covered.{uncovered}
use Rattle.reassembly.specs.Steps.{StepsTo, counts_viewed}
use Rattle.reassembly.specs.Waiting.{runs_of}
use Rattle.reassembly.proofs.Laws.{placed_is}
use Rattle.reassembly.proofs.Laid.{length-part}
use Rattle.reassembly.proofs.Taken.{accepted_within, accepted_from_next, accepted_below}

both : (o : Option ℕ) (b : Bool) → o ≡ cond b o o
both o true = refl
both o false = refl

not_accepted : (w : Window) (p : ℕ) → end_of w ≤ p → is_accepted w.next (runs_of w.runs) p ≡ false
not_accepted w p l = false_from_ne_true (is_accepted w.next (runs_of w.runs) p) (λ e. let b : p < end_of w = accepted_within w p e in omega arith)

false_true : (b : Bool) → b ≡ false → b ≡ true → ⊥
false_true b f t = both_ways b f t

-- no byte stands where the bounds contradict each other
pub no_byte : (low : ℕ) (bytes : List ℕ) (p : ℕ) → (low ≤ p → p < low + length bytes → ⊥) → has_byte low bytes p ≡ false
no_byte low bytes p h = false_from_ne_true (has_byte low bytes p) (λ e.
    let parts = and_parts (leb low p) (ltb p (low + length bytes)) e in
    h (leb-true low p parts.0) (ltb-true p (low + length bytes) parts.1))

-- and one stands between them
pub some_byte : (low : ℕ) (bytes : List ℕ) (p : ℕ) → low ≤ p → p < low + length bytes → has_byte low bytes p ≡ true
some_byte low bytes p from below = and_from (leb low p) (ltb p (low + length bytes)) (le-leb low p from) (lt-ltb p (low + length bytes) below)

-- a cell that isn't written stays, whether a byte stands there or not
stays : (here write : Bool) (byte : ℕ) (c : Option ℕ) → write ≡ false → cond here (cond write (Some byte) c) c ≡ c
stays true write byte c e = rw e refl
stays false write byte c e = refl

-- what contracts see of a window, read at a position
pub held_viewed : (w : Window) (fin : Option ℕ) (rbuf : ℕ) → IsLaid w → (p : ℕ) → held (view_of w fin rbuf).kept p ≡ kept_at w rbuf p
held_viewed w fin rbuf laid p = ⊎_elim
    (λ (l : p < end_of w). held_made (kept_at w rbuf) (end_of w) p l)
    (λ (l : end_of w ≤ p).
    let none : is_accepted w.next (runs_of w.runs) p ≡ false = not_accepted w p l in
    held_made_past (kept_at w rbuf) (end_of w) p l ∙ rw none (both None (leb (w.next - rbuf) p)))
    (cases_lt p (end_of w))

-- at the kept positions it is the cell
pub kept_cell : (w : Window) (rbuf p : ℕ) → w.next - rbuf ≤ p → kept_at w rbuf p ≡ cell_at w p
kept_cell w rbuf p l = cond-true (leb (w.next - rbuf) p) (cell_at w p) None (le-leb (w.next - rbuf) p l)

-- past the limit nothing is accepted
pub bounded_cell : (w : Window) (limit p : ℕ) → IsBounded w limit → limit ≤ p → is_accepted w.next (runs_of w.runs) p ≡ false
bounded_cell w limit p bounded l =
    let next : w.next ≤ limit = bounded.next in
    accepted_from_next w.next (runs_of w.runs) p (omega arith) ∙ uncovered (runs_of w.runs) p (λ h.
    let below : p < (run_at (runs_of w.runs) h.at).end = h.below in
    let end : (run_at (runs_of w.runs) h.at).end ≤ limit = bounded.runs.each h.at h.within in
    omega arith)

-- next itself isn't accepted
pub next_open : (w : Window) → AreAbove (runs_of w.runs) w.next → is_accepted w.next (runs_of w.runs) w.next ≡ false
next_open w above = accepted_from_next w.next (runs_of w.runs) w.next (omega arith) ∙ uncovered (runs_of w.runs) w.next (λ h.
    let from : (run_at (runs_of w.runs) h.at).start ≤ w.next = h.from in
    let up : w.next < (run_at (runs_of w.runs) h.at).start = above.each h.at h.within in
    omega arith)

-- no byte of the segment stands there, so none of a part does
outside : (start : ℕ) (segment : List ℕ) (p : ℕ) → has_byte start segment p ≡ false → start ≤ p → p < start + length segment → ⊥
outside start segment p gone a b = false_true (has_byte start segment p) gone
    (some_byte start segment p a b)

-- past all that was accepted no cell is filled
both_none : (last here : Bool) (x y : ℕ) → cond ((true && false) || (last && false)) (Some x) None ≡ cond (here && false) (Some y) None
both_none true true x y = refl
both_none true false x y = refl
both_none false true x y = refl
both_none false false x y = refl

-- between next and the limit both ways of saying what becomes of a cell agree
after_between : (c : Option ℕ) (last : Bool) (byte : ℕ) → cond ((not (is_some c) && true) || (last && (is_some c && true))) (Some byte) c ≡ cond (not (is_some c && not last)) (Some byte) c
after_between None true byte = refl
after_between None false byte = refl
after_between (Some x) true byte = refl
after_between (Some x) false byte = refl

-- past the limit too
after_again : (c : Option ℕ) (last : Bool) (byte : ℕ) → cond ((not (is_some c) && false) || (last && (is_some c && true))) (Some byte) c ≡ cond (is_some c && last) (Some byte) c
after_again None true byte = refl
after_again None false byte = refl
after_again (Some x) true byte = refl
after_again (Some x) false byte = refl

-- one byte of the segment: m of its n bytes lie below next, k below the limit, and past j nothing was accepted
pub record IsCut (next limit end start n m k j : ℕ) : Type 0 where
  pub below : m ≡ min (next - start) n
  pub within : k ≡ min (limit - start) n
  pub reach : j ≡ max k (min (end - start) n)
  pub order : next ≤ limit

pub cut_at : (next limit end start n m k j r : ℕ) → m ≡ min (next - start) n → k ≡ min (limit - start) n
    → r ≡ min (end - start) n → j ≡ max k r → next ≤ limit → IsCut next limit end start n m k j
cut_at next limit end start n m k j r below within under reach order = record { below = below; within = within; reach = reach ∙ ap (max k) under; order = order }

-- the bytes that are taken end at the limit or below it
pub middle_end : (next limit end start m k j low : ℕ) (segment : List ℕ) → IsCut next limit end start (length segment) m k j → low ≡ start + m
    → (b : ℕ) → limit ≤ b → (length (take (k - m) (drop m segment)) ≡ 0) ⊎ (low + length (take (k - m) (drop m segment)) ≤ b)
middle_end next limit end start m k j low segment cut at b l =
    let cm : m ≡ min (next - start) (length segment) = cut.below in
    let ck : k ≡ min (limit - start) (length segment) = cut.within in
    let order : next ≤ limit = cut.order in
    let len : length (take (k - m) (drop m segment)) ≡ k - m = length-part m k segment (omega arith) (omega arith) in
    ⊎_elim (λ (some : m < k). inr (omega arith)) (λ (none : k ≤ m). inl (omega arith)) (cases_lt m k)

-- and those that come again at j
pub rest_end : (next limit end start m k j : ℕ) (segment : List ℕ) → IsCut next limit end start (length segment) m k j
    → start + k + length (take (j - k) (drop k segment)) ≡ start + j
rest_end next limit end start m k j segment cut =
    let ck : k ≡ min (limit - start) (length segment) = cut.within in
    let cj : j ≡ max k (min (end - start) (length segment)) = cut.reach in
    let len : length (take (j - k) (drop k segment)) ≡ j - k = length-part k j segment (omega arith) (omega arith) in
    omega arith

pub part_byte : (m k n : ℕ) (segment : List ℕ) (i : ℕ) → length segment ≡ n → m ≤ k → k ≤ n → i < k - m → slice_index (take (k - m) (drop m segment)) i ≡ slice_index segment (m + i)
part_byte m k n segment i len a b l = get_or-take (k - m) (drop m segment) i 0 l ∙ get_or-drop m segment i 0

-- the parts that are taken and that come again, as cells
abbrev pub placed_cell : Policy → ℕ → List ℕ → (m k j : ℕ) → ℕ → Option ℕ → Option ℕ
placed_cell policy start segment m k j p c =
    again_cell policy (start + k) (take (j - k) (drop k segment)) p (taken_cell policy (start + m) (take (k - m) (drop m segment)) p c)

pub after_is_taken : (next limit end start m k j p : ℕ) (policy : Policy) (segment : List ℕ) (c : Option ℕ) → IsCut next limit end start (length segment) m k j
    → (p < next → is_some c ≡ true) → (end ≤ p → c ≡ None)
    → held_after next limit policy start segment p c ≡ placed_cell policy start segment m k j p c
after_is_taken next limit end start m k j p policy segment c cut below past =
    let n = length segment in
    let cm : m ≡ min (next - start) n = cut.below in
    let ck : k ≡ min (limit - start) n = cut.within in
    let cj : j ≡ max k (min (end - start) n) = cut.reach in
    let order : next ≤ limit = cut.order in
    let middle = take (k - m) (drop m segment) in
    let rest = take (j - k) (drop k segment) in
    let low = start + m in
    let low2 = start + k in
    let len : length middle ≡ k - m = length-part m k segment (omega arith) (omega arith) in
    let len2 : length rest ≡ j - k = length-part k j segment (omega arith) (omega arith) in
    let last = is_last policy in
    ⊎_elim
    (λ (under : p < next).
    let e1 : ltb p next ≡ true = lt-ltb p next under in
    let e2 : leb next p ≡ false = lt-leb next p under in
    let out : has_byte low middle p ≡ false = no_byte low middle p (λ f g. omega arith) in
    let out2 : has_byte low2 rest p ≡ false = no_byte low2 rest p (λ f g. omega arith) in
    rw (out, out2, e1, e2) (stays (has_byte start segment p) (last && false) (slice_index segment (p - start)) c (and_right last false refl)))
    (λ (over : next ≤ p).
    let e1 : ltb p next ≡ false = le-ltb p next over in
    let e2 : leb next p ≡ true = le-leb next p over in
    ⊎_elim
    (λ (inside : p < limit).
    let e3 : ltb p limit ≡ true = lt-ltb p limit inside in
    let out2 : has_byte low2 rest p ≡ false = no_byte low2 rest p (λ f g. omega arith) in
    ⊎_elim
    (λ (here : has_byte start segment p ≡ true).
    let parts = and_parts (leb start p) (ltb p (start + n)) here in
    let from : start ≤ p = leb-true start p parts.0 in
    let to : p < start + n = ltb-true p (start + n) parts.1 in
    let in_middle : has_byte low middle p ≡ true = some_byte low middle p (omega arith) (omega arith) in
    let again : m + (p - low) ≡ p - start = omega arith in
    let byte : slice_index middle (p - low) ≡ slice_index segment (p - start) = part_byte m k n segment (p - low) refl (omega arith) (omega arith) (omega arith) ∙ ap (slice_index segment) again in
    rw (here, in_middle, out2, e1, e2, e3, byte) (after_between c last (slice_index segment (p - start))))
    (λ (gone : has_byte start segment p ≡ false).
    let out : has_byte low middle p ≡ false = no_byte low middle p (λ f g. outside start segment p gone (omega arith) (omega arith)) in
    rw (gone, out, out2) refl)
    (cases_Bool (has_byte start segment p)))
    (λ (from_limit : limit ≤ p).
    let e3 : ltb p limit ≡ false = le-ltb p limit from_limit in
    let out : has_byte low middle p ≡ false = no_byte low middle p (λ f g. omega arith) in
    ⊎_elim
    (λ (here : has_byte start segment p ≡ true).
    let parts = and_parts (leb start p) (ltb p (start + n)) here in
    let from : start ≤ p = leb-true start p parts.0 in
    let to : p < start + n = ltb-true p (start + n) parts.1 in
    ⊎_elim
    (λ (waits : p < end).
    let in_rest : has_byte low2 rest p ≡ true = some_byte low2 rest p (omega arith) (omega arith) in
    let again : k + (p - low2) ≡ p - start = omega arith in
    let byte : slice_index rest (p - low2) ≡ slice_index segment (p - start) = part_byte k j n segment (p - low2) refl (omega arith) (omega arith) (omega arith) ∙ ap (slice_index segment) again in
    rw (here, out, in_rest, e1, e2, e3, byte) (after_again c last (slice_index segment (p - start))))
    (λ (free : end ≤ p).
    let none : c ≡ None = past free in
    rw (none, here, out, e1, e3) (both_none last (has_byte low2 rest p) (slice_index segment (p - start)) (slice_index rest (p - low2))))
    (cases_lt p end))
    (λ (gone : has_byte start segment p ≡ false).
    let out2 : has_byte low2 rest p ≡ false = no_byte low2 rest p (λ f g. outside start segment p gone (omega arith) (omega arith)) in
    rw (gone, out, out2) refl)
    (cases_Bool (has_byte start segment p)))
    (cases_lt p limit))
    (cases_lt p next)

-- the counts of four stretches: below next, up to the limit, up to where the accepted ones end, and past that
count_four : (f g h again last : ℕ → Bool) (m k j n : ℕ) → m ≤ k → k ≤ j → j ≤ n
    → ((i : ℕ) → i < m → f i ≡ g i) → ((i : ℕ) → i < k - m → f (m + i) ≡ h i) → ((i : ℕ) → i < j - k → f (k + i) ≡ again i)
    → ((i : ℕ) → i < n - j → f (j + i) ≡ last i)
    → count_below f n ≡ count_below g m + count_below h (k - m) + count_below again (j - k) + count_below last (n - j)
count_four f g h again last m k j n a b c w x y z =
    let one : count_below f m ≡ count_below g m = count_below-same f g m w in
    let two : count_below f k ≡ count_below f m + count_below h (k - m) = count_below-stretch f h m (k - m) k (omega arith) x in
    let three : count_below f j ≡ count_below f k + count_below again (j - k) = count_below-stretch f again k (j - k) j (omega arith) y in
    let four : count_below f n ≡ count_below f j + count_below last (n - j) = count_below-stretch f last j (n - j) n (omega arith) z in
    omega (arith, one, two, three, four)

yes_all : (n : ℕ) → count_below (λ i. true) n ≡ n
yes_all n = count_below-all (λ i. true) n (λ i l. refl)

no_all : (n : ℕ) → count_below (λ i. false) n ≡ 0
no_all n = count_below-none (λ i. false) n (λ i l. refl)

kept_below : (w : Window) (rbuf p : ℕ) → p < w.next → kept_at w rbuf p ≡ cond (leb (w.next - rbuf) p) (Some (byte_at w p)) None
kept_below w rbuf p l = rw (accepted_below w.next (runs_of w.runs) p l) refl

differs_below : (next rbuf p byte b : ℕ) (k : Bool) → k ≡ leb (next - rbuf) p → is_differing next rbuf p (cond k (Some byte) None) b ≡ (k && not (eqb byte b))
differs_below next rbuf p byte b true e = rw (← e) refl
differs_below next rbuf p byte b false e = refl

pub some_of_cond : (b : Bool) (x : ℕ) → is_some (cond b (Some x) None) ≡ b
some_of_cond true x = refl
some_of_cond false x = refl

-- the judging words in each stretch
old_below : (next p : ℕ) (c : Option ℕ) → p < next → is_old next p c ≡ true
old_below next p c l = rw (lt-ltb p next l) refl

new_below : (next limit p : ℕ) (c : Option ℕ) → p < next → is_new next limit p c ≡ false
new_below next limit p c l = rw (lt-ltb p next l) refl

over_below : (next limit p : ℕ) (c : Option ℕ) → p < next → is_beyond next limit p c ≡ false
over_below next limit p c l = rw (lt-ltb p next l) refl

old_above : (next p : ℕ) (c : Option ℕ) → next ≤ p → is_old next p c ≡ is_some c
old_above next p c l = rw (le-ltb p next l) refl

and_true : (b : Bool) → (b && true) ≡ b
and_true true = refl
and_true false = refl

new_between : (next limit p : ℕ) (c : Option ℕ) → next ≤ p → p < limit → is_new next limit p c ≡ not (is_some c)
new_between next limit p c a b = rw (le-ltb p next a, lt-ltb p limit b) (and_true (not (is_some c)))

new_past : (next limit p : ℕ) (c : Option ℕ) → limit ≤ p → is_new next limit p c ≡ false
new_past next limit p c b = rw (le-ltb p limit b) (and_right (not (is_old next p c)) false refl)

over_between : (next limit p : ℕ) (c : Option ℕ) → p < limit → is_beyond next limit p c ≡ false
over_between next limit p c b = rw (lt-leb limit p b) (and_right (not (is_old next p c)) false refl)

over_past : (next limit p : ℕ) (c : Option ℕ) → next ≤ p → limit ≤ p → is_beyond next limit p c ≡ not (is_some c)
over_past next limit p c a b = rw (le-ltb p next a, le-leb limit p b) (and_true (not (is_some c)))

differs_above : (next rbuf p byte b : ℕ) (covered : Bool) → next ≤ p → is_differing next rbuf p (cond covered (Some byte) None) b ≡ (covered && not (eqb byte b))
differs_above next rbuf p byte b true l = rw (le-leb (next - rbuf) p (omega arith)) refl
differs_above next rbuf p byte b false l = refl

-- the counts of the whole segment
pub counts_placed : (w : Window) (fin : Option ℕ) (rbuf limit end start m k j : ℕ) (segment : List ℕ) → IsLaid w → IsBounded w end → IsCut w.next limit end start (length segment) m k j
    → (tally again : Judged) (below from : ℕ) → from ≡ start + m → tally ≡ taken_tally w from (take (k - m) (drop m segment)) → again ≡ taken_tally w (start + k) (take (j - k) (drop k segment))
    → below ≡ differing_below w rbuf start (take m segment)
    → record { new = tally.new; old = m + tally.old + again.old; differ = below + tally.differ + again.differ; over = length segment - j + again.new }
    ≡ counts_viewed (view_of w fin rbuf) limit start segment
counts_placed w fin rbuf limit end start m k j segment laid bounded cut tally again below from at told_from told_again told_below =
    let n = length segment in
    let next = w.next in
    let low = start + m in
    let low2 = start + k in
    let middle = take (k - m) (drop m segment) in
    let rest = take (j - k) (drop k segment) in
    let cm : m ≡ min (next - start) n = cut.below in
    let ck : k ≡ min (limit - start) n = cut.within in
    let cj : j ≡ max k (min (end - start) n) = cut.reach in
    let order : next ≤ limit = cut.order in
    let len : length middle ≡ k - m = length-part m k segment (omega arith) (omega arith) in
    let len2 : length rest ≡ j - k = length-part k j segment (omega arith) (omega arith) in
    let front : length (take m segment) ≡ m = length-take-le m segment (omega arith) in
    let cell : ℕ → Option ℕ = λ p. held (view_of w fin rbuf).kept p in
    let seen : (p : ℕ) → cell p ≡ kept_at w rbuf p = held_viewed w fin rbuf laid in
    let covered : ℕ → Bool = λ i. is_covered (runs_of w.runs) (low + i) in
    let covered2 : ℕ → Bool = λ i. is_covered (runs_of w.runs) (low2 + i) in
    let place : (i : ℕ) → start + (m + i) ≡ low + i = λ i. omega arith in
    let place2 : (i : ℕ) → start + (k + i) ≡ low2 + i = λ i. omega arith in
    let filled : (p : ℕ) → next ≤ p → cell p ≡ cond (is_covered (runs_of w.runs) p) (Some (byte_at w p)) None = λ p l.
    seen p ∙ kept_cell w rbuf p (omega arith) ∙ ap (λ b. cond b (Some (byte_at w p)) None) (accepted_from_next next (runs_of w.runs) p l) in
    let cell1 : (i : ℕ) → i < m → cell (start + i) ≡ cond (leb (next - rbuf) (start + i)) (Some (byte_at w (start + i))) None = λ i l. seen (start + i) ∙ kept_below w rbuf (start + i) (omega arith) in
    let cell2 : (i : ℕ) → i < k - m → cell (start + (m + i)) ≡ cond (covered i) (Some (byte_at w (low + i))) None = λ i l. ap cell (place i) ∙ filled (low + i) (omega arith) in
    let cell3 : (i : ℕ) → i < j - k → cell (start + (k + i)) ≡ cond (covered2 i) (Some (byte_at w (low2 + i))) None = λ i l. ap cell (place2 i) ∙ filled (low2 + i) (omega arith) in
    let some2 : (i : ℕ) → i < k - m → is_some (cell (start + (m + i))) ≡ covered i = λ i l. ap is_some (cell2 i l) ∙ some_of_cond (covered i) (byte_at w (low + i)) in
    let some3 : (i : ℕ) → i < j - k → is_some (cell (start + (k + i))) ≡ covered2 i = λ i l. ap is_some (cell3 i l) ∙ some_of_cond (covered2 i) (byte_at w (low2 + i)) in
    let cell4 : (i : ℕ) → i < n - j → cell (start + (j + i)) ≡ None = λ i l.
    seen (start + (j + i)) ∙ kept_cell w rbuf (start + (j + i)) (omega arith)
    ∙ ap (λ b. cond b (Some (byte_at w (start + (j + i)))) None) (bounded_cell w end (start + (j + i)) bounded (omega arith)) in
    let new_ : ℕ → Bool = λ i. is_new next limit (start + i) (cell (start + i)) in
    let old_ : ℕ → Bool = λ i. is_old next (start + i) (cell (start + i)) in
    let over_ : ℕ → Bool = λ i. is_beyond next limit (start + i) (cell (start + i)) in
    let differ_ : ℕ → Bool = λ i. is_differing next rbuf (start + i) (cell (start + i)) (slice_index segment i) in
    let here : ℕ → Bool = λ i. leb (next - rbuf) (start + i) && not (eqb (byte_at w (start + i)) (slice_index segment i)) in
    let there : ℕ → Bool = λ i. covered i && not (eqb (byte_at w (low + i)) (slice_index middle i)) in
    let there2 : ℕ → Bool = λ i. covered2 i && not (eqb (byte_at w (low2 + i)) (slice_index rest i)) in
    let new : count_below new_ n ≡ count_below (λ i. false) m + count_below (λ i. not (covered i)) (k - m) + count_below (λ i. false) (j - k) + count_below (λ i. false) (n - j)
    = count_four new_ (λ i. false) (λ i. not (covered i)) (λ i. false) (λ i. false) m k j n (omega arith) (omega arith) (omega arith)
    (λ i l. new_below next limit (start + i) (cell (start + i)) (omega arith))
    (λ i l. new_between next limit (start + (m + i)) (cell (start + (m + i))) (omega arith) (omega arith) ∙ ap not (some2 i l))
    (λ i l. new_past next limit (start + (k + i)) (cell (start + (k + i))) (omega arith))
    (λ i l. new_past next limit (start + (j + i)) (cell (start + (j + i))) (omega arith)) in
    let old : count_below old_ n ≡ count_below (λ i. true) m + count_below covered (k - m) + count_below covered2 (j - k) + count_below (λ i. false) (n - j)
    = count_four old_ (λ i. true) covered covered2 (λ i. false) m k j n (omega arith) (omega arith) (omega arith)
    (λ i l. old_below next (start + i) (cell (start + i)) (omega arith))
    (λ i l. old_above next (start + (m + i)) (cell (start + (m + i))) (omega arith) ∙ some2 i l)
    (λ i l. old_above next (start + (k + i)) (cell (start + (k + i))) (omega arith) ∙ some3 i l)
    (λ i l. old_above next (start + (j + i)) (cell (start + (j + i))) (omega arith) ∙ ap is_some (cell4 i l)) in
    let over : count_below over_ n ≡ count_below (λ i. false) m + count_below (λ i. false) (k - m) + count_below (λ i. not (covered2 i)) (j - k) + count_below (λ i. true) (n - j)
    = count_four over_ (λ i. false) (λ i. false) (λ i. not (covered2 i)) (λ i. true) m k j n (omega arith) (omega arith) (omega arith)
    (λ i l. over_below next limit (start + i) (cell (start + i)) (omega arith))
    (λ i l. over_between next limit (start + (m + i)) (cell (start + (m + i))) (omega arith))
    (λ i l. over_past next limit (start + (k + i)) (cell (start + (k + i))) (omega arith) (omega arith) ∙ ap not (some3 i l))
    (λ i l. over_past next limit (start + (j + i)) (cell (start + (j + i))) (omega arith) (omega arith) ∙ ap (λ c. not (is_some c)) (cell4 i l)) in
    let differ : count_below differ_ n ≡ count_below here m + count_below there (k - m) + count_below there2 (j - k) + count_below (λ i. false) (n - j)
    = count_four differ_ here there there2 (λ i. false) m k j n (omega arith) (omega arith) (omega arith)
    (λ i l. ap (λ c. is_differing next rbuf (start + i) c (slice_index segment i)) (cell1 i l)
    ∙ differs_below next rbuf (start + i) (byte_at w (start + i)) (slice_index segment i) (leb (next - rbuf) (start + i)) refl)
    (λ i l. ap (λ c. is_differing next rbuf (start + (m + i)) c (slice_index segment (m + i))) (cell2 i l)
    ∙ differs_above next rbuf (start + (m + i)) (byte_at w (low + i)) (slice_index segment (m + i)) (covered i) (omega arith)
    ∙ ap (λ b. covered i && not (eqb (byte_at w (low + i)) b)) (sym (part_byte m k n segment i refl (omega arith) (omega arith) l)))
    (λ i l. ap (λ c. is_differing next rbuf (start + (k + i)) c (slice_index segment (k + i))) (cell3 i l)
    ∙ differs_above next rbuf (start + (k + i)) (byte_at w (low2 + i)) (slice_index segment (k + i)) (covered2 i) (omega arith)
    ∙ ap (λ b. covered2 i && not (eqb (byte_at w (low2 + i)) b)) (sym (part_byte k j n segment i refl (omega arith) (omega arith) l)))
    (λ i l. ap (λ c. is_differing next rbuf (start + (j + i)) c (slice_index segment (j + i))) (cell4 i l)) in
    let below_is : below ≡ count_below here m = told_below
    ∙ ap (count_below (λ i. leb (next - rbuf) (start + i) && not (eqb (byte_at w (start + i)) (slice_index (take m segment) i)))) front
    ∙ count_below-same (λ i. leb (next - rbuf) (start + i) && not (eqb (byte_at w (start + i)) (slice_index (take m segment) i))) here m
    (λ i l. ap (λ b. leb (next - rbuf) (start + i) && not (eqb (byte_at w (start + i)) b)) (get_or-take m segment i 0 l)) in
    let told_tally : tally ≡ taken_tally w low middle = told_from ∙ ap (λ x. taken_tally w x middle) at in
    let t_new : tally.new ≡ count_below (λ i. not (covered i)) (k - m) = ap (λ t. t.new) told_tally ∙ ap (count_below (λ i. not (covered i))) len in
    let t_old : tally.old ≡ count_below covered (k - m) = ap (λ t. t.old) told_tally ∙ ap (count_below covered) len in
    let t_differ : tally.differ ≡ count_below there (k - m) = ap (λ t. t.differ) told_tally ∙ ap (count_below there) len in
    let a_new : again.new ≡ count_below (λ i. not (covered2 i)) (j - k) = ap (λ t. t.new) told_again ∙ ap (count_below (λ i. not (covered2 i))) len2 in
    let a_old : again.old ≡ count_below covered2 (j - k) = ap (λ t. t.old) told_again ∙ ap (count_below covered2) len2 in
    let a_differ : again.differ ≡ count_below there2 (j - k) = ap (λ t. t.differ) told_again ∙ ap (count_below there2) len2 in
    let none = no_all m in
    let none2 = no_all (k - m) in
    let none3 = no_all (j - k) in
    let none4 = no_all (n - j) in
    let all = yes_all m in
    let all4 = yes_all (n - j) in
    placed_is _ (counts_viewed (view_of w fin rbuf) limit start segment)
    (omega (arith, new, t_new, none, none3, none4)) (omega (arith, old, t_old, a_old, all, none4))
    (omega (arith, differ, below_is, t_differ, a_differ, none4)) (omega (arith, over, a_new, none, none2, all4))

-- the buffer before, after bytes were taken and laid again, and after old ones were dropped
pub record IsPlaced (old mid new : Window) (rbuf start m k j : ℕ) (segment : List ℕ) (policy : Policy) : Type 0 where
  pub old_laid : IsLaid old
  pub old_kept : old.bytes.base ≤ old.next - rbuf
  pub mid_laid : IsLaid mid
  pub rises : old.next ≤ mid.next
  pub placed : (p : ℕ) → old.bytes.base ≤ p → cell_at mid p ≡ placed_cell policy start segment m k j p (cell_at old p)
  pub new_laid : IsLaid new
  pub new_next : new.next ≡ mid.next
  pub new_runs : runs_of new.runs ≡ runs_of mid.runs
  pub new_kept : new.bytes.base ≤ new.next - rbuf
  pub new_bytes : (p : ℕ) → new.bytes.base ≤ p → byte_at new p ≡ byte_at mid p

pub steps_placed : (old mid new : Window) (fin : Option ℕ) (rbuf limit end start m k j : ℕ) (policy : Policy) (segment : List ℕ)
    → IsPlaced old mid new rbuf start m k j segment policy → IsBounded old end → IsCut old.next limit end start (length segment) m k j
    → StepsTo limit start segment policy (view_of old fin rbuf) (view_of new fin rbuf)
steps_placed old mid new fin rbuf limit end start m k j policy segment h bounded cut =
    let after : ℕ → Option ℕ → Option ℕ = λ p c. held_after old.next limit policy start segment p c in
    let rises : old.next ≤ mid.next = h.rises in
    let same_next : new.next ≡ mid.next = h.new_next in
    let old_kept : old.bytes.base ≤ old.next - rbuf = h.old_kept in
    let new_kept : new.bytes.base ≤ new.next - rbuf = h.new_kept in
    let told : (p : ℕ) → old.next - rbuf ≤ p → after p (held (view_of old fin rbuf).kept p) ≡ cell_at mid p = λ p l.
    ap (after p) (held_viewed old fin rbuf h.old_laid p ∙ kept_cell old rbuf p l)
    ∙ after_is_taken old.next limit end start m k j p policy segment (cell_at old p) cut
    (λ b. some_of_cond (is_accepted old.next (runs_of old.runs) p) (byte_at old p) ∙ accepted_below old.next (runs_of old.runs) p b)
    (λ b. ap (λ x. cond x (Some (byte_at old p)) None) (bounded_cell old end p bounded b))
    ∙ sym (h.placed p (omega arith)) in
    let some_mid : (p : ℕ) → is_some (cell_at mid p) ≡ is_accepted mid.next (runs_of mid.runs) p = λ p. some_of_cond (is_accepted mid.next (runs_of mid.runs) p) (byte_at mid p) in
    let same_cell : (p : ℕ) → new.bytes.base ≤ p → cell_at new p ≡ cell_at mid p = λ p l.
    ap₂ (λ b x. cond b (Some x) None) (ap₂ (λ n (rs : List Run). is_accepted n rs p) same_next h.new_runs) (h.new_bytes p l) in
    record {
      fin = refl;
      rbuf = refl;
      rises = omega arith;
      filled = λ p l b. ap is_some (told p (omega arith)) ∙ some_mid p ∙ accepted_below mid.next (runs_of mid.runs) p (omega arith);
      empty = ap is_some (told new.next (omega arith)) ∙ some_mid new.next ∙ ap (is_accepted mid.next (runs_of mid.runs)) same_next ∙ next_open mid h.mid_laid.above;
      cells = λ p l. held_viewed new fin rbuf h.new_laid p ∙ kept_cell new rbuf p l ∙ same_cell p (omega arith) ∙ sym (told p (omega arith));
      forgotten = λ p l. held_viewed new fin rbuf h.new_laid p ∙ cond-false (leb (new.next - rbuf) p) (cell_at new p) None (lt-leb (new.next - rbuf) p l);
    }
