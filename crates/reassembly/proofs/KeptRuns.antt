-- Kept positions, told over the window and its runs.
use Rattle.std.proofs.Common.{◌≡◌, ℕ, ◌-◌, ◌<◌, ◌≤◌, true, false, cond, refl, ap, ◌∙◌, sym, true≢false, ⊎_elim, List, arith, Option, Some, None, is_some, leb}
use Rattle.std.specs.Prelude.{IfNone}
use Rattle.std.proofs.lemmas.Bool.{lt-leb, cases_lt}
use Rattle.reassembly.specs.declared.runs.Run.{Run}
use Rattle.reassembly.specs.declared.window.Window.{Window}
use Rattle.reassembly.specs.Kept.{IsRunEnd, IsFirst}
use Rattle.reassembly.specs.Runs.{run_at, is_accepted, is_covered, AreOrdered}
use Rattle.reassembly.specs.Window.{byte_at, kept_at, IsLaid}
use Rattle.reassembly.specs.Waiting.{runs_of, HasItem}
use Rattle.reassembly.proofs.Covered.{covered_by, uncovered}
use Rattle.reassembly.proofs.Listed.{item_filled, items_apart, items_same}
use Rattle.reassembly.proofs.Taken.{accepted_from_next, accepted_below}
use Rattle.reassembly.proofs.Placing.{kept_cell, next_open, some_of_cond}

pub kept_some : (w : Window) (rbuf p : ℕ) → w.next - rbuf ≤ p → is_accepted w.next (runs_of w.runs) p ≡ true → is_some (kept_at w rbuf p) ≡ true
kept_some w rbuf p l e = ap is_some (kept_cell w rbuf p l) ∙ some_of_cond (is_accepted w.next (runs_of w.runs) p) (byte_at w p) ∙ e

pub kept_none : (w : Window) (rbuf p : ℕ) → is_accepted w.next (runs_of w.runs) p ≡ false → is_some (kept_at w rbuf p) ≡ false
kept_none w rbuf p e = rw e (elim (leb (w.next - rbuf) p) as (λ b. is_some (cond b (cond {A = Option ℕ} false (Some (byte_at w p)) None) None) ≡ false) [ true ↦ refl | false ↦ refl ])

pub kept_low : (w : Window) (rbuf p : ℕ) → p < w.next - rbuf → is_some (kept_at w rbuf p) ≡ false
kept_low w rbuf p l = rw (lt-leb (w.next - rbuf) p l) refl

-- where a position isn't kept, its run ends there
pub no_run : (at : ℕ → Option ℕ) (p : ℕ) → is_some (at p) ≡ false → IsRunEnd at p p
no_run at p e = record { order = omega arith; run = λ x l h. absurd (omega arith); stops = e }

pub run_to_next : (w : Window) (rbuf p : ℕ) → IsLaid w → w.next - rbuf ≤ p → p < w.next → IsRunEnd (kept_at w rbuf) p w.next
run_to_next w rbuf p laid low below = record {
  order = omega arith;
  run = λ x l h. kept_some w rbuf x (omega arith) (accepted_below w.next (runs_of w.runs) x h);
  stops = kept_none w rbuf w.next (next_open w laid.above);
}

-- a position at next or above it, in no run
pub gap_open : (w : Window) (rbuf p : ℕ) → w.next ≤ p → is_covered (runs_of w.runs) p ≡ false → is_some (kept_at w rbuf p) ≡ false
gap_open w rbuf p over gap = kept_none w rbuf p (accepted_from_next w.next (runs_of w.runs) p over ∙ gap)

-- a run doesn't cover its end, and nor does another
end_open : (runs : List Run) (run : Run) → AreOrdered runs → HasItem runs run → is_covered runs run.end ≡ false
end_open runs run ordered item = uncovered runs run.end (λ has.
    let other : Run = run_at runs has.at in
    let there : HasItem runs other = record { at = has.at; within = has.within; is = refl } in
    let from : other.start ≤ run.end = has.from in
    let below : run.end < other.end = has.below in
    let filled : run.start < run.end = item_filled runs ordered run item in
    ⊎_elim
    (λ (l : run.start < other.start). let a : run.end < other.start = items_apart runs ordered run other item there l in omega arith)
    (λ (l : other.start ≤ run.start). ⊎_elim
    (λ (less : other.start < run.start). let a : other.end < run.start = items_apart runs ordered other run there item less in omega arith)
    (λ (more : run.start ≤ other.start).
    let same : other.end ≡ run.end = ap (λ (r : Run). r.end) (items_same runs ordered other run there item (omega arith)) in
    omega arith)
    (cases_lt other.start run.start))
    (cases_lt run.start other.start))

-- and in a run
pub run_to_end : (w : Window) (rbuf p : ℕ) (run : Run) → IsLaid w → w.next ≤ p → HasItem (runs_of w.runs) run → run.start ≤ p → p < run.end → IsRunEnd (kept_at w rbuf) p run.end
run_to_end w rbuf p run laid over item from below =
    let runs : List Run = runs_of w.runs in
    record {
      order = omega arith;
      run = λ x l h. kept_some w rbuf x (omega arith) (accepted_from_next w.next runs x (omega arith)
          ∙ covered_by runs item.at x item.within (rw item.is (let m : run.start ≤ x = omega arith in m)) (rw item.is h));
      stops = gap_open w rbuf run.end (omega arith) (end_open runs run laid.ordered item);
    }

-- from an open position up to a later one no run begins, so none covers any
still_open : (runs : List Run) (p x : ℕ) → is_covered runs p ≡ false → p ≤ x → ((run : Run) → HasItem runs run → run.start ≤ x → run.start ≤ p) → is_covered runs x ≡ false
still_open runs p x gap over begins = uncovered runs x (λ has.
    let from : (run_at runs has.at).start ≤ p = begins (run_at runs has.at) (record { at = has.at; within = has.within; is = refl }) has.from in
    let below : x < (run_at runs has.at).end = has.below in
    true≢false (sym (covered_by runs has.at p has.within from (omega arith)) ∙ gap))

pub first_above : (w : Window) (rbuf p : ℕ) (run : Run) → IsLaid w → w.next ≤ p → is_covered (runs_of w.runs) p ≡ false → HasItem (runs_of w.runs) run → p < run.start
    → ((other : Run) → HasItem (runs_of w.runs) other → p < other.start → run.start ≤ other.start) → IsFirst (kept_at w rbuf) p run.start
first_above w rbuf p run laid over gap item above least =
    let runs : List Run = runs_of w.runs in
    let filled : run.start < run.end = item_filled runs laid.ordered run item in
    record {
      order = omega arith;
      gap = λ x l h. gap_open w rbuf x (omega arith) (still_open runs p x gap l (λ other there from. ⊎_elim
          (λ (b : p < other.start). let up : run.start ≤ other.start = least other there b in absurd (omega arith))
          (λ (b : other.start ≤ p). b)
          (cases_lt p other.start)));
      here = kept_some w rbuf run.start (omega arith) (accepted_from_next w.next runs run.start (omega arith)
          ∙ covered_by runs item.at run.start item.within (rw item.is (let m : run.start ≤ run.start = omega arith in m)) (rw item.is filled));
    }

pub none_past : (w : Window) (rbuf p : ℕ) → w.next ≤ p → is_covered (runs_of w.runs) p ≡ false
    → ((other : Run) → HasItem (runs_of w.runs) other → other.start ≤ p) → (x : ℕ) → p ≤ x → is_some (kept_at w rbuf x) ≡ false
none_past w rbuf p over gap before x l = gap_open w rbuf x (omega arith) (still_open (runs_of w.runs) p x gap l (λ other there from. before other there))

-- a search that found nothing
pub nothing_found : (o : Option Run) (P : Type 0) → is_some o ≡ false → IfNone o P → P
nothing_found None P e h = h
nothing_found (Some run) P e h = absurd (true≢false e)
