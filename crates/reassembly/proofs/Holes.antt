-- The bytes of one page with a hole, as a window: how it comes to be, is filled, and becomes a window of its own.
use Rattle.std.proofs.Common.{◌≡◌, ℕ, ◌+◌, ◌-◌, ◌/◌, ◌<◌, ◌≤◌, zero, suc, min, true, false, refl, ap, ◌∙◌, sym, arith, true≢false, List, [], ◌∷◌, ◌++◌, Some, length, slice_index, take, le-leb, lt-ltb, le-ltb, length-append, length-take-le, get_or-take, ⊎_elim}
use Rattle.std.proofs.lemmas.Bool.{cases_lt, lt-leb}
use Rattle.std.proofs.lemmas.List.{get_or_append_left, get_or-append_right}
use borrow.Rule.Slice.PartMut.{put_mid}
use Rattle.std.specs.declared.alloc.Global.{Global}
use Rattle.std.specs.declared.vec.Vec.{Vec}
use Rattle.reassembly.specs.declared.holed.Holed.{Holed}
use Rattle.reassembly.specs.declared.runs.Run.{Run}
use Rattle.reassembly.specs.declared.window.Window.{Window}
use Rattle.reassembly.specs.Buffer.{first_page, in_order, holed, FillsHole, TakesAll}
use Rattle.reassembly.specs.Pages.{page_at, IsKeyed}
use Rattle.reassembly.specs.Runs.{run_at, AreWithin}
use Rattle.reassembly.specs.Waiting.{runs_of}
use Rattle.reassembly.specs.Window.{byte_at, accepts, IsLaid, IsBounded, IsSameWindow}
use Rattle.reassembly.proofs.AllNew.{IsAllNew, takes_all}
use Rattle.reassembly.proofs.InOrder.{byte_in_order, laid_in_order, bounded_in_order, same_pages}
use Rattle.reassembly.proofs.Paged.{no_page}
use Rattle.reassembly.proofs.Parts.{mid_below, mid_in, mid_above, length-mid}
use Rattle.reassembly.proofs.Taken.{accepted_below, accepted_from_next}

-- there is a hole, and a run behind it, which ends in the first page
pub record IsHoled (h : Holed) : Type 0 where
  pub hole : h.next < h.start
  pub run : h.start < length h.bytes.items
  pub page : length h.bytes.items ≤ 2048

abbrev pub run_of_holed : Holed → Run
run_of_holed h = record { start = h.start; end = length h.bytes.items }

-- the hole isn't accepted, the run is, and nothing past it
pub in_hole : (h : Holed) (p : ℕ) → h.next ≤ p → p < h.start → accepts (holed h) p ≡ false
in_hole h p from below = rw (le-ltb p h.next from, lt-leb h.start p below) refl

pub in_run : (h : Holed) (p : ℕ) → h.next < h.start → h.start ≤ p → p < length h.bytes.items → accepts (holed h) p ≡ true
in_run h p hole from below = rw (le-ltb p h.next (omega arith), le-leb h.start p from, lt-ltb p (length h.bytes.items) below) refl

pub past_run : (h : Holed) (p : ℕ) → IsHoled h → length h.bytes.items ≤ p → accepts (holed h) p ≡ false
past_run h p is over =
    let hole : h.next < h.start = is.hole in
    let run : h.start < length h.bytes.items = is.run in
    rw (le-ltb p h.next (omega arith), le-leb h.start p (omega arith), le-ltb p (length h.bytes.items) over) refl

-- what is true of the one run
one_run : (P : Run → Type 0) (run : Run) → P run → (k : ℕ) → k < length (run ∷ []) → P (run_at (run ∷ []) k)
one_run P run here zero l = here
one_run P run here (suc k) l = absurd (omega arith)

pub holed_of_laid : (h : Holed) → IsLaid (holed h) → IsHoled h
holed_of_laid h laid =
    let hole : h.next < h.start = laid.above.each 0 (omega arith) in
    let run : h.start < length h.bytes.items = laid.ordered.filled 0 (omega arith) in
    record {
      hole = hole;
      run = run;
      page = ⊎_elim
          (λ (l : 2048 < length h.bytes.items).
          let last = length h.bytes.items - 1 in
          let held = laid.held last (omega arith) (in_run h last hole (omega arith) (omega arith)) in
          let none : length (page_at (first_page h.bytes) ((last - 0) / 2048)) ≡ 0 = ap length (no_page (first_page h.bytes) ((last - 0) / 2048) (omega arith)) in
          absurd (omega (arith, held, none)))
          (λ (l : length h.bytes.items ≤ 2048). l)
          (cases_lt 2048 (length h.bytes.items));
    }

pub laid_holed : (h : Holed) → IsHoled h → IsLaid (holed h)
laid_holed h is =
    let page = laid_in_order h.bytes is.page in
    record {
      keyed = page.keyed;
      held = λ p l e. ⊎_elim
          (λ (below : p < length h.bytes.items). page.held p l (accepted_below (length h.bytes.items) [] p below))
          (λ (over : length h.bytes.items ≤ p). absurd (true≢false (sym e ∙ past_run h p is over)))
          (cases_lt p (length h.bytes.items));
      ordered = record {
        filled = one_run (λ run. run.start < run.end) (run_of_holed h) is.run;
        apart = λ j k before l. absurd (omega arith);
      };
      above = record { each = one_run (λ run. h.next < run.start) (run_of_holed h) is.hole };
    }

within_holed : (h : Holed) (m : ℕ) → length h.bytes.items ≤ m → AreWithin (runs_of (holed h).runs) m
within_holed h m l = record { each = one_run (λ run. run.end ≤ m) (run_of_holed h) l }

pub bounded_holed : (h : Holed) → IsHoled h → IsBounded (holed h) (length h.bytes.items)
bounded_holed h is =
    let hole : h.next < h.start = is.hole in
    let run : h.start < length h.bytes.items = is.run in
    record { next = omega arith; runs = within_holed h (length h.bytes.items) (omega arith) }

within_none : (v : Vec ℕ Global) (m : ℕ) → AreWithin (runs_of (in_order v).runs) m
within_none v m = record { each = λ k l. absurd (omega arith) }

-- a segment that leaves a hole: `front` are the bytes and the zeros before it
pub record IsWaiting (v : Vec ℕ Global) (h : Holed) (limit start : ℕ) (front segment : List ℕ) (k : ℕ) : Type 0 where
  pub old_laid : IsLaid (in_order v)
  pub hole : length v.items < start
  pub order : start < limit
  pub some : 0 < length segment
  pub within : k ≡ min (limit - start) (length segment)
  pub page : start + k ≤ 2048
  pub next : h.next ≡ length v.items
  pub at : h.start ≡ start
  pub len : length front ≡ start
  pub same : (i : ℕ) → i < length v.items → slice_index front i ≡ slice_index v.items i
  pub items : h.bytes.items ≡ front ++ take k segment

waiting_end : (v : Vec ℕ Global) (h : Holed) (limit start : ℕ) (front segment : List ℕ) (k : ℕ) → IsWaiting v h limit start front segment k
    → length h.bytes.items ≡ start + k
waiting_end v h limit start front segment k w =
    let within : k ≡ min (limit - start) (length segment) = w.within in
    let len : length front ≡ start = w.len in
    let cut : length (take k segment) ≡ k = length-take-le k segment (omega arith) in
    ap length w.items ∙ length-append front (take k segment) ∙ (omega arith)

waiting_holed : (v : Vec ℕ Global) (h : Holed) (limit start : ℕ) (front segment : List ℕ) (k : ℕ) → IsWaiting v h limit start front segment k → IsHoled h
waiting_holed v h limit start front segment k w =
    let end = waiting_end v h limit start front segment k w in
    let within : k ≡ min (limit - start) (length segment) = w.within in
    let next : h.next ≡ length v.items = w.next in
    let at : h.start ≡ start = w.at in
    let hole : length v.items < start = w.hole in
    let page : start + k ≤ 2048 = w.page in
    let order : start < limit = w.order in
    let some : 0 < length segment = w.some in
    record { hole = omega arith; run = omega arith; page = omega arith }

waiting_new : (v : Vec ℕ Global) (h : Holed) (limit start : ℕ) (front segment : List ℕ) (k : ℕ) → IsWaiting v h limit start front segment k
    → IsAllNew (in_order v) (holed h) limit (length v.items) start segment k
waiting_new v h limit start front segment k w =
    let is = waiting_holed v h limit start front segment k w in
    let end = waiting_end v h limit start front segment k w in
    let old = length v.items in
    let next : h.next ≡ old = w.next in
    let at : h.start ≡ start = w.at in
    let hole : old < start = w.hole in
    let page : start + k ≤ 2048 = w.page in
    let order : start < limit = w.order in
    let within : k ≡ min (limit - start) (length segment) = w.within in
    let len : length front ≡ start = w.len in
    let byte : (p : ℕ) → p < 2048 → byte_at (holed h) p ≡ slice_index (front ++ take k segment) p = λ p l. byte_in_order h.bytes p l ∙ ap (λ xs. slice_index xs p) w.items in
    record {
      old_laid = w.old_laid;
      old_base = refl;
      new_laid = laid_holed h is;
      new_base = refl;
      bounded = bounded_in_order v;
      from = omega arith;
      order = omega arith;
      within = w.within;
      reach = omega arith;
      rises = omega arith;
      under = λ p l. ⊎_elim
          (λ (below : p < old).
          let here : accepts (holed h) p ≡ true = accepted_below h.next (runs_of (holed h).runs) p (omega arith) in
          let there : accepts (in_order v) p ≡ true = accepted_below old [] p below in
          rw (here, there) (ap Some (byte p (omega arith) ∙ get_or_append_left front (take k segment) 0 p (omega arith) ∙ w.same p below ∙ sym (byte_in_order v p (omega arith)))))
          (λ (over : old ≤ p).
          let here : accepts (holed h) p ≡ false = in_hole h p (omega arith) (omega arith) in
          let there : accepts (in_order v) p ≡ false = accepted_from_next old [] p over in
          rw (here, there) refl)
          (cases_lt p old);
      past = λ p l.
          let here : accepts (holed h) p ≡ false = past_run h p is (omega arith) in
          let there : accepts (in_order v) p ≡ false = accepted_from_next old [] p (omega arith) in
          rw (here, there) refl;
      free = λ p from below. accepted_from_next old [] p (omega arith);
      taken = λ p from below.
          let here : accepts (holed h) p ≡ true = in_run h p is.hole (omega arith) (omega arith) in
          rw here (ap Some (byte p (omega arith) ∙ get_or-append_right front (take k segment) start p 0 len from ∙ get_or-take k segment (p - start) 0 (omega arith)));
    }

pub waits : (v : Vec ℕ Global) (h : Holed) (limit rbuf start : ℕ) (front segment : List ℕ) (k : ℕ) → IsWaiting v h limit start front segment k → limit ≤ length v.items + rbuf
    → TakesAll limit rbuf start segment (in_order v) (holed h)
waits v h limit rbuf start front segment k w wide =
    let end = waiting_end v h limit start front segment k w in
    let next : h.next ≡ length v.items = w.next in
    let within : k ≡ min (limit - start) (length segment) = w.within in
    let order : start < limit = w.order in
    takes_all (in_order v) (holed h) limit (length v.items) rbuf start segment k (waiting_new v h limit start front segment k w)
    (λ old. let stale : length v.items - rbuf < 0 + 2048 = old.stale in record { kept = omega arith; stale = omega arith; span = within_holed h (h.next + rbuf) (omega arith) })
    (λ m l old. let below : length v.items ≤ m = old.next in record { next = omega arith; runs = within_holed h m (omega arith) })

-- a segment that fills the hole
pub record IsFilled (h : Holed) (v : Vec ℕ Global) (limit start : ℕ) (segment : List ℕ) : Type 0 where
  pub old_laid : IsLaid (holed h)
  pub fills : FillsHole h limit start (length segment)
  pub items : v.items ≡ put_mid h.next (length segment) h.bytes.items segment

filled_end : (h : Holed) (v : Vec ℕ Global) (limit start : ℕ) (segment : List ℕ) → IsFilled h v limit start segment → length v.items ≡ length h.bytes.items
filled_end h v limit start segment f =
    let is = holed_of_laid h f.old_laid in
    let run : h.start < length h.bytes.items = is.run in
    let from : start ≡ h.next = f.fills.from in
    let to : start + length segment ≡ h.start = f.fills.to in
    ap length f.items ∙ length-mid h.next (length segment) h.bytes.items segment (omega arith) refl

filled_new : (h : Holed) (v : Vec ℕ Global) (limit start : ℕ) (segment : List ℕ) → IsFilled h v limit start segment
    → IsAllNew (holed h) (in_order v) limit (length h.bytes.items) start segment (length segment)
filled_new h v limit start segment f =
    let is = holed_of_laid h f.old_laid in
    let end = filled_end h v limit start segment f in
    let hole : h.next < h.start = is.hole in
    let run : h.start < length h.bytes.items = is.run in
    let page : length h.bytes.items ≤ 2048 = is.page in
    let from : start ≡ h.next = f.fills.from in
    let to : start + length segment ≡ h.start = f.fills.to in
    let below : h.start ≤ limit = f.fills.below in
    let old = h.bytes.items in
    let n = length segment in
    let byte : (p : ℕ) → p < 2048 → byte_at (in_order v) p ≡ slice_index (put_mid h.next n old segment) p = λ p l. byte_in_order v p l ∙ ap (λ xs. slice_index xs p) f.items in
    record {
      old_laid = f.old_laid;
      old_base = refl;
      new_laid = laid_in_order v (omega arith);
      new_base = refl;
      bounded = bounded_holed h is;
      from = omega arith;
      order = omega arith;
      within = omega arith;
      reach = omega arith;
      rises = omega arith;
      under = λ p l.
          let here : accepts (in_order v) p ≡ true = accepted_below (length v.items) [] p (omega arith) in
          let there : accepts (holed h) p ≡ true = accepted_below h.next (runs_of (holed h).runs) p (omega arith) in
          rw (here, there) (ap Some (byte p (omega arith) ∙ mid_below h.next n old segment p 0 (omega arith) (omega arith) ∙ sym (byte_in_order h.bytes p (omega arith))));
      past = λ p l. ⊎_elim
          (λ (inside : p < length old).
          let here : accepts (in_order v) p ≡ true = accepted_below (length v.items) [] p (omega arith) in
          let there : accepts (holed h) p ≡ true = in_run h p hole (omega arith) inside in
          rw (here, there) (ap Some (byte p (omega arith) ∙ mid_above h.next n old segment p 0 (omega arith) refl (omega arith) ∙ sym (byte_in_order h.bytes p (omega arith)))))
          (λ (over : length old ≤ p).
          let here : accepts (in_order v) p ≡ false = accepted_from_next (length v.items) [] p (omega arith) in
          let there : accepts (holed h) p ≡ false = past_run h p is over in
          rw (here, there) refl)
          (cases_lt p (length old));
      free = λ p low high. in_hole h p (omega arith) (omega arith);
      taken = λ p low high.
          let here : accepts (in_order v) p ≡ true = accepted_below (length v.items) [] p (omega arith) in
          rw here (ap Some (byte p (omega arith) ∙ mid_in h.next n old segment p 0 (omega arith) (omega arith) (omega arith) ∙ ap (λ x. slice_index segment (p - x)) (sym from)));
    }

pub fills : (h : Holed) (v : Vec ℕ Global) (limit rbuf start : ℕ) (segment : List ℕ) → IsFilled h v limit start segment
    → TakesAll limit rbuf start segment (holed h) (in_order v)
fills h v limit rbuf start segment f =
    let is = holed_of_laid h f.old_laid in
    let end = filled_end h v limit start segment f in
    let hole : h.next < h.start = is.hole in
    let run : h.start < length h.bytes.items = is.run in
    let page : length h.bytes.items ≤ 2048 = is.page in
    takes_all (holed h) (in_order v) limit (length h.bytes.items) rbuf start segment (length segment) (filled_new h v limit start segment f)
    (λ old. let span : length h.bytes.items ≤ h.next + rbuf = old.span.each 0 (omega arith) in
    record { kept = omega arith; stale = omega arith; span = within_none v (length v.items + rbuf) })
    (λ m l old. let below : length h.bytes.items ≤ m = old.runs.each 0 (omega arith) in record { next = omega arith; runs = within_none v m })

-- the window that has the bytes as its first page, and their run
pub spread_holed : (h : Holed) (w : Window) → w.next ≡ h.next → runs_of w.runs ≡ run_of_holed h ∷ [] → w.bytes.base ≡ 0 → IsKeyed w.bytes
    → page_at w.bytes 0 ≡ h.bytes.items → ((k : ℕ) → page_at w.bytes (k + 1) ≡ []) → IsSameWindow (holed h) w
spread_holed h w next runs base keyed first others =
    let same = same_pages h.bytes w.bytes base first others in
    record { base = base; next = next; runs = runs; keyed = keyed; bytes = same.0; held = same.1 }
