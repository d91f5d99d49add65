use Rattle.std.proofs.Common.{◌≡◌, ℕ, ◌-◌, ◌≤◌, min, ◌∙◌, ap, arith, subst, sym, List, Option, length, rules}
use Rattle.std.specs.Prelude.{OnOk, IfOk}
use Rattle.std.proofs.lemmas.Result.{on_ok_weaker, IfOk-weaker}
use Rattle.std.specs.declared.alloc.AllocError.{AllocError}
use Rattle.std.specs.declared.result.Result.{Result}
use Rattle.reassembly.specs.declared.answers.Placed.{Placed}
use Rattle.reassembly.specs.declared.answers.Policy.{Policy}
use Rattle.reassembly.specs.declared.window.Window.{Window}
use Rattle.reassembly.specs.Buffer.{in_order, holed, TakesAll, window_of}
use Rattle.reassembly.specs.Placing.{Places, Judges}
use Rattle.reassembly.specs.Runs.{AreWithin}
use Rattle.reassembly.specs.Steps.{StepsTo, counts_viewed}
use Rattle.reassembly.specs.View.{StreamView}
use Rattle.reassembly.specs.Window.{view_of, IsBounded, IsSameWindow}
use Rattle.reassembly.proofs.Empty.{nothing_changes}
use Rattle.reassembly.proofs.InOrder.{views_same}
use Rattle.reassembly.proofs.buffer.Buffer.place.Goals as goal

pub returns-then-len-eq0-clause-placed : goal.returns-then-len-eq0-clause-placed
returns-then-len-eq0-clause-placed c = record {
  laid = c.requires.ready.laid;
  sized = c.requires.ready.sized;
  bounded = λ m l old. old;
  steps = λ fin. nothing_changes (window_of c.args.self.now) fin c.args.rbuf c.args.limit c.args.start c.args.segment.now c.args.policy c.requires.ready.laid (omega arith);
}

pub returns-in-InOrder-clause-placed : goal.returns-in-InOrder-clause-placed
returns-in-InOrder-clause-placed c = rw c.in-InOrder.is (on_ok_weaker c.append.result (λ placed. placed c.args.policy) c.append.ensures.placed)

pub returns-in-InOrder-clause-judged : goal.returns-in-InOrder-clause-judged
returns-in-InOrder-clause-judged c = rw c.in-InOrder.is c.append.ensures.judged

-- the counts of a segment of n bytes, of which some are new
abbrev counted : ℕ → ℕ → Placed
counted n new = record { new = new; old = 0; differ = 0; over = n - new }

-- the segment leaves a hole
waits : (c : goal.After-all_new-in-InOrder-2) → TakesAll c.args.limit c.args.rbuf c.args.start c.args.segment.now (in_order c.in-InOrder.bytes) (holed c.in_ok-leave_hole-in-InOrder-2.field-0)
waits c = c.in_ok-leave_hole-in-InOrder-2.ensures.ok c.args.rbuf (rw c.in-InOrder.is at c.requires.window)

pub returns-in_ok-leave_hole-in-InOrder-2-clause-placed : goal.returns-in_ok-leave_hole-in-InOrder-2-clause-placed
returns-in_ok-leave_hole-in-InOrder-2-clause-placed c = rw c.in-InOrder.is ((waits c).places c.args.policy (rw c.in-InOrder.is at c.requires.ready.sized))

pub returns-in_ok-leave_hole-in-InOrder-2-clause-judged : goal.returns-in_ok-leave_hole-in-InOrder-2-clause-judged
returns-in_ok-leave_hole-in-InOrder-2-clause-judged c = record {
  counts = λ fin. rw c.in-InOrder.is (c.all_new-in-InOrder-2.ensures ∙ ap (counted (length c.args.segment.now)) c.count_under.ensures ∙ (waits c).counts fin);
  bounds = search rules;
}

-- the segment fills the hole
filled : (c : goal.After-all_new-in-Holed) → TakesAll c.args.limit c.args.rbuf c.args.start c.args.segment.now (holed c.in-Holed.holed) (in_order c.fill.result)
filled c = c.fill.ensures c.args.limit c.args.rbuf c.args.start (c.is_filled_by.ensures.0 c.if-is_filled_by.true)

pub returns-in-Holed-clause-placed : goal.returns-in-Holed-clause-placed
returns-in-Holed-clause-placed c = rw c.in-Holed.is ((filled c).places c.args.policy (rw c.in-Holed.is at c.requires.ready.sized))

pub returns-in-Holed-clause-judged : goal.returns-in-Holed-clause-judged
returns-in-Holed-clause-judged c = record {
  counts = λ fin.
      let n = length c.args.segment.now in
      let full = c.is_filled_by.ensures.0 c.if-is_filled_by.true in
      let all : n ≡ min (c.args.limit - c.args.start) n = omega arith in
      rw c.in-Holed.is (c.all_new-in-Holed.ensures ∙ ap (counted n) all ∙ (filled c).counts fin);
  bounds = search rules;
}

-- what is told of the window that was spread is told of the bytes that it came from
placed_spread : (old mid new : Window) (result : Result Placed AllocError) (rbuf limit start : ℕ) (segment : List ℕ) (policy : Policy) → IsSameWindow old mid
    → OnOk result (Places limit rbuf start segment policy mid new) → OnOk result (Places limit rbuf start segment policy old new)
placed_spread old mid new result rbuf limit start segment policy same =
    let bounds : (m : ℕ) → IsBounded old m → IsBounded mid m = λ m b. record {
      next = subst (λ n. n ≤ m) (sym same.next) b.next;
      runs = subst (λ runs. AreWithin runs m) (sym same.runs) b.runs;
    } in
    on_ok_weaker result (λ p. record {
      laid = p.laid;
      sized = p.sized;
      bounded = λ m l b. p.bounded m l (bounds m b);
      steps = subst (λ (view : Option ℕ → StreamView). (fin : Option ℕ) → StepsTo limit start segment policy (view fin) (view_of new fin rbuf)) (views_same old mid rbuf same) p.steps;
    })

judged_spread : (old mid : Window) (result : Result Placed AllocError) (rbuf limit start : ℕ) (segment : List ℕ) → IsSameWindow old mid
    → IfOk result (Judges limit rbuf start segment mid) → IfOk result (Judges limit rbuf start segment old)
judged_spread old mid result rbuf limit start segment same judged = IfOk-weaker result _ _ (λ placed j. record {
  counts = subst (λ (view : Option ℕ → StreamView). (fin : Option ℕ) → placed ≡ counts_viewed (view fin) limit start segment) (views_same old mid rbuf same) j.counts;
  bounds = j.bounds;
}) judged

-- the window that the bytes became
same : (c : goal.Joined-self-3) → IsSameWindow (in_order c.in-InOrder.bytes) c.deref_mut.result.now
same c = rw c.deref_mut.ensures.value c.in_ok-window-in-InOrder-3.ensures.same

pub returns-in_ok-window-in-InOrder-3-clause-placed : goal.returns-in_ok-window-in-InOrder-3-clause-placed
returns-in_ok-window-in-InOrder-3-clause-placed c = rw c.in-InOrder.is (placed_spread (in_order c.in-InOrder.bytes) c.deref_mut.result.now c.place-placed.new.self
    c.place-placed.result c.args.rbuf c.args.limit c.args.start c.args.segment.now c.args.policy (same c) c.place-placed.ensures.placed)

pub returns-in_ok-window-in-InOrder-3-clause-judged : goal.returns-in_ok-window-in-InOrder-3-clause-judged
returns-in_ok-window-in-InOrder-3-clause-judged c = rw c.in-InOrder.is (judged_spread (in_order c.in-InOrder.bytes) c.deref_mut.result.now
    c.place-placed.result c.args.rbuf c.args.limit c.args.start c.args.segment.now (same c) c.place-placed.ensures.judged)

-- the window that the bytes with their hole became
same_holed : (c : goal.Joined-self-5) → IsSameWindow (holed c.in-Holed.holed) c.deref_mut-in-Holed-2.result.now
same_holed c = rw c.deref_mut-in-Holed-2.ensures.value c.in_ok-window-in-Holed-2.ensures.same

pub returns-in_ok-window-in-Holed-2-clause-placed : goal.returns-in_ok-window-in-Holed-2-clause-placed
returns-in_ok-window-in-Holed-2-clause-placed c = rw c.in-Holed.is (placed_spread (holed c.in-Holed.holed) c.deref_mut-in-Holed-2.result.now c.place-placed-in-Holed-2.new.self
    c.place-placed-in-Holed-2.result c.args.rbuf c.args.limit c.args.start c.args.segment.now c.args.policy (same_holed c) c.place-placed-in-Holed-2.ensures.placed)

pub returns-in_ok-window-in-Holed-2-clause-judged : goal.returns-in_ok-window-in-Holed-2-clause-judged
returns-in_ok-window-in-Holed-2-clause-judged c = rw c.in-Holed.is (judged_spread (holed c.in-Holed.holed) c.deref_mut-in-Holed-2.result.now
    c.place-placed-in-Holed-2.result c.args.rbuf c.args.limit c.args.start c.args.segment.now (same_holed c) c.place-placed-in-Holed-2.ensures.judged)

pub returns-in-Spread-clause-placed : goal.returns-in-Spread-clause-placed
returns-in-Spread-clause-placed c = rw (c.in-Spread.is, ← c.deref_mut-in-Spread.ensures.value) c.place.ensures.placed

pub returns-in-Spread-clause-judged : goal.returns-in-Spread-clause-judged
returns-in-Spread-clause-judged c = rw (c.in-Spread.is, ← c.deref_mut-in-Spread.ensures.value) c.place.ensures.judged
