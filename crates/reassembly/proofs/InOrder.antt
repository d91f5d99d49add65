-- The bytes of one page as a window: what it holds, a segment that goes on where they end, and the window that they become.
use Rattle.std.proofs.Common.{◌≡◌, ℕ, ◌+◌, ◌-◌, ◌/◌, ◌%◌, ◌<◌, ◌≤◌, zero, suc, min, Bool, true, false, not, ◌&&◌, refl, ap, ap₂, ◌∙◌, sym, arith, List, [], ◌++◌, Option, Some, length, slice_index, map, take, drop, eqb, leb, le-leb, rules, length-append, length-take-le, add-zero, ⊎_elim}
use Rattle.std.specs.List.{range_with_len}
use Rattle.std.proofs.lemmas.Bool.{cases_lt, lt-leb}
use Rattle.std.proofs.lemmas.List.{get_or_append_left, get_or-append_right}
use Rattle.std.specs.declared.alloc.Global.{Global}
use Rattle.std.specs.declared.vec.Vec.{Vec}
use Rattle.reassembly.specs.declared.answers.Placed.{Placed}
use Rattle.reassembly.specs.declared.answers.Policy.{Policy}
use Rattle.reassembly.specs.declared.laying.Judged.{Judged}
use Rattle.reassembly.specs.declared.pages.Pages.{Pages}
use Rattle.reassembly.specs.declared.window.Window.{Window}
use Rattle.reassembly.specs.Buffer.{first_page, in_order, differing_from}
use Rattle.reassembly.specs.Laying.{differing_of}
use Rattle.reassembly.specs.Pages.{page_at, byte_of, IsHeld, IsKeyed}
use Rattle.reassembly.specs.Runs.{is_accepted}
use Rattle.reassembly.specs.Segment.{has_byte, count_below}
use Rattle.reassembly.specs.Steps.{StepsTo, counts_viewed}
use Rattle.reassembly.specs.View.{StreamView}
use Rattle.reassembly.specs.Waiting.{runs_of}
use Rattle.reassembly.specs.Window.{byte_at, cell_at, view_of, IsLaid, IsBounded, IsSameWindow, end_of, kept_at, taken_tally, differing_below}
use Rattle.reassembly.proofs.Counts.{count_below-same, count_below-all, count_below-none, count_below-stretch}
use Rattle.reassembly.proofs.Laid.{length-part, tally_is}
use Rattle.reassembly.proofs.Laws.{placed_is}
use Rattle.reassembly.proofs.Paged.{byte_in_page, no_page, still_held}
use Rattle.reassembly.proofs.Parts.{part_at}
use Rattle.reassembly.proofs.Placing.{IsCut, placed_cell, no_byte, some_byte, counts_placed, steps_placed}
use Rattle.reassembly.proofs.Taken.{accepted_below, accepted_from_next}

-- the bytes that have a kept position, compared by index
pub compared : (low start skip : ℕ) (bytes segment : List ℕ) → skip ≡ min (low - start) (length segment) → start + length segment ≤ length bytes
    → differing_of (take (start + length segment - (start + skip)) (drop (start + skip) bytes)) (take (length segment - skip) (drop skip segment))
    (length (take (length segment - skip) (drop skip segment)))
    ≡ differing_from low bytes start segment
compared low start skip bytes segment e within =
    let n = length segment in
    let kept = take (start + n - (start + skip)) (drop (start + skip) bytes) in
    let part = take (n - skip) (drop skip segment) in
    let f : ℕ → Bool = λ i. leb low (start + i) && not (eqb (slice_index bytes (start + i)) (slice_index segment i)) in
    let g : ℕ → Bool = λ i. not (eqb (slice_index kept i) (slice_index part i)) in
    let len : length part ≡ n - skip = length-part skip n segment (omega arith) (omega arith) in
    let none : count_below f skip ≡ 0 = count_below-none f skip (λ i l. ap (λ x. x && not (eqb (slice_index bytes (start + i)) (slice_index segment i))) (lt-leb low (start + i) (omega arith))) in
    let parts : count_below f n ≡ count_below f skip + count_below g (n - skip) = count_below-stretch f g skip (n - skip) n (omega arith) (λ i l.
    let yes : leb low (start + (skip + i)) ≡ true = le-leb low (start + (skip + i)) (omega arith) in
    let again : start + skip + i ≡ start + (skip + i) = omega arith in
    let byte : slice_index kept i ≡ slice_index bytes (start + (skip + i)) = part_at (start + skip) (start + n) bytes i 0 (omega arith) ∙ ap (slice_index bytes) again in
    rw yes (ap not (ap₂ eqb (sym byte) (sym (part_at skip n segment i 0 l))))) in
    ap (count_below g) len ∙ (omega (arith, none, parts))

-- the page's bytes, by position
pub byte_in_order : (v : Vec ℕ Global) (p : ℕ) → p < 2048 → byte_at (in_order v) p ≡ slice_index v.items p
byte_in_order v p l =
    ap (byte_of (first_page v)) (sym (add-zero p))
    ∙ byte_in_page (first_page v) p 0 p 0 (record { base = omega arith; place = omega arith; offset = omega arith }) (omega arith)
    ∙ ap (slice_index v.items) (add-zero p)

-- they are at most a page
pub in_page : (v : Vec ℕ Global) → IsLaid (in_order v) → length v.items ≤ 2048
in_page v laid = ⊎_elim
    (λ (l : 2048 < length v.items).
    let held : 0 < 0 = laid.held 2048 (omega arith) (accepted_below (length v.items) [] 2048 l) in
    absurd (omega arith))
    (λ (l : length v.items ≤ 2048). l)
    (cases_lt 2048 (length v.items))

pub laid_in_order : (v : Vec ℕ Global) → length v.items ≤ 2048 → IsLaid (in_order v)
laid_in_order v l = search rules

pub bounded_in_order : (v : Vec ℕ Global) → IsBounded (in_order v) (length v.items)
bounded_in_order v = record { next = omega arith; runs = record { each = λ k l. absurd (omega arith) } }

-- a segment that goes on where the bytes end, and what they are then
pub record IsAppended (v w : Vec ℕ Global) (limit start : ℕ) (segment : List ℕ) (m k : ℕ) : Type 0 where
  pub old_laid : IsLaid (in_order v)
  pub from : start ≤ length v.items
  pub order : length v.items ≤ limit
  pub below : m ≡ min (length v.items - start) (length segment)
  pub within : k ≡ min (limit - start) (length segment)
  pub fits : start + k ≤ 2048
  pub items : w.items ≡ v.items ++ take (k - m) (drop m segment)

-- they are still at most a page
new_laid : (v w : Vec ℕ Global) (limit start : ℕ) (segment : List ℕ) (m k : ℕ) → IsAppended v w limit start segment m k → IsLaid (in_order w)
new_laid v w limit start segment m k h =
    let below : m ≡ min (length v.items - start) (length segment) = h.below in
    let within : k ≡ min (limit - start) (length segment) = h.within in
    let from : start ≤ length v.items = h.from in
    let fits : start + k ≤ 2048 = h.fits in
    let order : length v.items ≤ limit = h.order in
    let page : length v.items ≤ 2048 = in_page v h.old_laid in
    let len : length (take (k - m) (drop m segment)) ≡ k - m = length-part m k segment (omega arith) (omega arith) in
    let all : length w.items ≡ length v.items + length (take (k - m) (drop m segment)) = ap length h.items ∙ length-append v.items (take (k - m) (drop m segment)) in
    laid_in_order w (omega arith)

cut_in_order : (v w : Vec ℕ Global) (limit start : ℕ) (segment : List ℕ) (m k : ℕ) → IsAppended v w limit start segment m k
    → IsCut (length v.items) limit (length v.items) start (length segment) m k k
cut_in_order v w limit start segment m k h =
    let below : m ≡ min (length v.items - start) (length segment) = h.below in
    let within : k ≡ min (limit - start) (length segment) = h.within in
    let order : length v.items ≤ limit = h.order in
    record { below = below; within = within; reach = omega arith; order = order }

placed_in_order : (v w : Vec ℕ Global) (policy : Policy) (limit start : ℕ) (segment : List ℕ) (m k : ℕ) → IsAppended v w limit start segment m k
    → (p : ℕ) → cell_at (in_order w) p ≡ placed_cell policy start segment m k k p (cell_at (in_order v) p)
placed_in_order v w policy limit start segment m k h p =
    let next = length v.items in
    let middle = take (k - m) (drop m segment) in
    let rest = take (k - k) (drop k segment) in
    let from : start ≤ next = h.from in
    let order : next ≤ limit = h.order in
    let cm : m ≡ min (next - start) (length segment) = h.below in
    let ck : k ≡ min (limit - start) (length segment) = h.within in
    let len : length middle ≡ k - m = length-part m k segment (omega arith) (omega arith) in
    let len2 : length rest ≡ k - k = length-part k k segment (omega arith) (omega arith) in
    let all : length w.items ≡ next + length middle = ap length h.items ∙ length-append v.items middle in
    let page : length w.items ≤ 2048 = in_page w (new_laid v w limit start segment m k h) in
    let out2 : has_byte (start + k) rest p ≡ false = no_byte (start + k) rest p (λ f g. omega arith) in
    ⊎_elim
    (λ (under : p < next).
    let out : has_byte (start + m) middle p ≡ false = no_byte (start + m) middle p (λ f g. omega arith) in
    let here : is_accepted (length w.items) [] p ≡ true = accepted_below (length w.items) [] p (omega arith) in
    let there : is_accepted next [] p ≡ true = accepted_below next [] p under in
    let byte : byte_at (in_order w) p ≡ byte_at (in_order v) p = byte_in_order w p (omega arith) ∙ ap (λ xs. slice_index xs p) h.items
    ∙ get_or_append_left v.items middle 0 p under ∙ sym (byte_in_order v p (omega arith)) in
    rw (out2, out, here, there) (ap Some byte))
    (λ (over : next ≤ p).
    let there : is_accepted next [] p ≡ false = accepted_from_next next [] p over in
    ⊎_elim
    (λ (inside : p < next + length middle).
    let in_middle : has_byte (start + m) middle p ≡ true = some_byte (start + m) middle p (omega arith) (omega arith) in
    let here : is_accepted (length w.items) [] p ≡ true = accepted_below (length w.items) [] p (omega arith) in
    let place : p - next ≡ p - (start + m) = omega arith in
    let byte : byte_at (in_order w) p ≡ slice_index middle (p - (start + m)) = byte_in_order w p (omega arith) ∙ ap (λ xs. slice_index xs p) h.items
    ∙ get_or-append_right v.items middle next p 0 refl over ∙ ap (slice_index middle) place in
    rw (out2, in_middle, here, there) (ap Some byte))
    (λ (past : next + length middle ≤ p).
    let out : has_byte (start + m) middle p ≡ false = no_byte (start + m) middle p (λ f g. omega arith) in
    let here : is_accepted (length w.items) [] p ≡ false = accepted_from_next (length w.items) [] p (omega arith) in
    rw (out2, out, here, there) refl)
    (cases_lt p (next + length middle)))
    (cases_lt p next)

pub steps_in_order : (v w : Vec ℕ Global) (policy : Policy) (fin : Option ℕ) (rbuf limit start : ℕ) (segment : List ℕ) (m k : ℕ) → IsAppended v w limit start segment m k
    → StepsTo limit start segment policy (view_of (in_order v) fin rbuf) (view_of (in_order w) fin rbuf)
steps_in_order v w policy fin rbuf limit start segment m k h =
    let laid = new_laid v w limit start segment m k h in
    let all : length w.items ≡ length v.items + length (take (k - m) (drop m segment)) = ap length h.items ∙ length-append v.items (take (k - m) (drop m segment)) in
    steps_placed (in_order v) (in_order w) (in_order w) fin rbuf limit (length v.items) start m k k policy segment
    (record {
      old_laid = h.old_laid;
      old_kept = omega arith;
      mid_laid = laid;
      rises = omega arith;
      placed = λ p l. placed_in_order v w policy limit start segment m k h p;
      new_laid = laid;
      new_next = refl;
      new_runs = refl;
      new_kept = omega arith;
      new_bytes = λ p l. refl;
    })
    (bounded_in_order v) (cut_in_order v w limit start segment m k h)

pub counts_in_order : (v w : Vec ℕ Global) (fin : Option ℕ) (rbuf limit start : ℕ) (segment : List ℕ) (m k differ : ℕ) → IsAppended v w limit start segment m k
    → differ ≡ differing_from (length v.items - rbuf) v.items start (take m segment)
    → record { new = k - m; old = m; differ = differ; over = length segment - k } ≡ counts_viewed (view_of (in_order v) fin rbuf) limit start segment
counts_in_order v w fin rbuf limit start segment m k differ h told =
    let next = length v.items in
    let cut = cut_in_order v w limit start segment m k h in
    let order : next ≤ limit = h.order in
    let from : start ≤ next = h.from in
    let cm : m ≡ min (next - start) (length segment) = h.below in
    let ck : k ≡ min (limit - start) (length segment) = h.within in
    let page : next ≤ 2048 = in_page v h.old_laid in
    let middle = take (k - m) (drop m segment) in
    let rest = take (k - k) (drop k segment) in
    let len : length middle ≡ k - m = length-part m k segment (omega arith) (omega arith) in
    let len2 : length rest ≡ k - k = length-part k k segment (omega arith) (omega arith) in
    let front : length (take m segment) ≡ m = length-take-le m segment (omega arith) in
    let none2 : length rest ≡ 0 = omega arith in
    let taken : Judged = record { new = k - m; old = 0; differ = 0 } in
    let again : Judged = record { new = 0; old = 0; differ = 0 } in
    let all_new : taken ≡ taken_tally (in_order v) (start + m) middle = tally_is taken (taken_tally (in_order v) (start + m) middle)
    (sym (count_below-all (λ i. true) (length middle) (λ i l. refl) ∙ len))
    (sym (count_below-none (λ i. false) (length middle) (λ i l. refl)))
    (sym (count_below-none (λ i. false) (length middle) (λ i l. refl))) in
    let no_more : again ≡ taken_tally (in_order v) (start + k) rest = tally_is again (taken_tally (in_order v) (start + k) rest)
    (sym (count_below-all (λ i. true) (length rest) (λ i l. refl) ∙ none2))
    (sym (count_below-none (λ i. false) (length rest) (λ i l. refl)))
    (sym (count_below-none (λ i. false) (length rest) (λ i l. refl))) in
    let below : differ ≡ differing_below (in_order v) rbuf start (take m segment) = told ∙ count_below-same
    (λ i. leb (next - rbuf) (start + i) && not (eqb (slice_index v.items (start + i)) (slice_index (take m segment) i)))
    (λ i. leb (next - rbuf) (start + i) && not (eqb (byte_at (in_order v) (start + i)) (slice_index (take m segment) i)))
    (length (take m segment))
    (λ i l. ap (λ b. leb (next - rbuf) (start + i) && not (eqb b (slice_index (take m segment) i))) (sym (byte_in_order v (start + i) (omega arith)))) in
    let made : Placed = record { new = k - m; old = m + 0 + 0; differ = differ + 0 + 0; over = length segment - k + 0 } in
    placed_is _ made refl (omega arith) (omega arith) (omega arith)
    ∙ counts_placed (in_order v) fin rbuf limit next start m k k segment h.old_laid (bounded_in_order v) cut taken again differ (start + m) refl all_new no_more below

-- pages of which the first has the bytes, and the others have none
pages_same : (v : Vec ℕ Global) (s : Pages) → page_at s 0 ≡ v.items → ((k : ℕ) → page_at s (k + 1) ≡ []) → (k : ℕ) → page_at s k ≡ page_at (first_page v) k
pages_same v s first others zero = first
pages_same v s first others (suc k) =
    let at : k + 1 ≡ suc k = omega arith in
    ap (page_at s) (sym at) ∙ others k ∙ sym (no_page (first_page v) (suc k) (omega arith))

-- they have its bytes, and hold what it holds
pub same_pages : (v : Vec ℕ Global) (s : Pages) → s.base ≡ 0 → page_at s 0 ≡ v.items → ((k : ℕ) → page_at s (k + 1) ≡ [])
    → ((p : ℕ) → byte_of s p ≡ byte_of (first_page v) p) × ((p : ℕ) → IsHeld (first_page v) p → IsHeld s p)
same_pages v s base first others =
    let pages = pages_same v s first others in (
      λ p. rw base (ap (λ (xs : List ℕ). slice_index xs ((p - 0) % 2048)) (pages ((p - 0) / 2048))),
      still_held (first_page v) s base (λ k. let e : length (page_at s k) ≡ length (page_at (first_page v) k) = ap length (pages k) in omega arith),
    )

pub spread_same : (v : Vec ℕ Global) (w : Window) → w.next ≡ length v.items → runs_of w.runs ≡ [] → w.bytes.base ≡ 0 → IsKeyed w.bytes
    → page_at w.bytes 0 ≡ v.items → ((k : ℕ) → page_at w.bytes (k + 1) ≡ []) → IsSameWindow (in_order v) w
spread_same v w next runs base keyed first others =
    let same = same_pages v w.bytes base first others in
    record { base = base; next = next; runs = runs; keyed = keyed; bytes = same.0; held = same.1 }

-- what contracts see of the same content is the same
kept_alike : (old new : Window) (rbuf : ℕ) → IsSameWindow old new → (p : ℕ) → kept_at new rbuf p ≡ kept_at old rbuf p
kept_alike old new rbuf h p = rw (h.next, h.runs, h.bytes p) refl

pub views_same : (old new : Window) (rbuf : ℕ) → IsSameWindow old new → ◌≡◌ {A = Option ℕ → StreamView} (λ fin. view_of new fin rbuf) (λ fin. view_of old fin rbuf)
views_same old new rbuf h =
    let end : end_of new ≡ end_of old = rw (h.next, h.runs) refl in
    let at : ◌≡◌ {A = ℕ → Option ℕ} (kept_at new rbuf) (kept_at old rbuf) = λ i p. kept_alike old new rbuf h p i in
    let kept : map (kept_at new rbuf) (range_with_len 0 (end_of new)) ≡ map (kept_at old rbuf) (range_with_len 0 (end_of old)) = ap₂ (λ (f : ℕ → Option ℕ) n. map f (range_with_len 0 n)) at end in
    let made : ℕ → List (Option ℕ) → Option ℕ → StreamView = λ n cells fin. record { next = n; kept = cells; fin = fin; rbuf = rbuf } in
    ap₂ made h.next kept
