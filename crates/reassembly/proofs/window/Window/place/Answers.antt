use Rattle.std.proofs.Common.{◌≡◌, ℕ, ◌+◌, ◌-◌, ◌≤◌, arith, ap, ◌∙◌, length, take, drop, Option, rules}
use Rattle.reassembly.specs.Runs.{run_at, is_covered}
use Rattle.reassembly.specs.Waiting.{runs_of}
use Rattle.reassembly.specs.Steps.{StepsTo}
use Rattle.reassembly.specs.Window.{IsBounded, IsSized, cell_at, taken_tally, view_of}
use Rattle.reassembly.proofs.Placing.{IsCut, cut_at, middle_end, rest_end, placed_cell, counts_placed, steps_placed}
use Rattle.reassembly.proofs.Again.{IsAgain, again_from, cells_placed, tally_met, same_bound, accepted_again, tally_again}
use Rattle.reassembly.proofs.window.Window.place.Goals as goal

-- how the segment is cut, before the bytes past the limit are laid and at the end
cut : (c : goal.After-repeat-arg-2-1) → IsCut c.args.self.now.next c.args.limit c.end.result c.args.start (length c.args.segment.now)
    c.count_under-below.result c.count_under-within.result c.max-reach.result
cut c = cut_at _ _ _ _ _ _ _ _ _ c.count_under-below.ensures c.count_under-within.ensures c.count_under.ensures c.max-reach.ensures c.requires.order

cut_after : (c : goal.After-drop-met-2) → IsCut c.args.self.now.next c.args.limit c.end.result c.args.start (length c.args.segment.now)
    c.count_under-below.result c.count_under-within.result c.max-reach.result
cut_after c = cut_at _ _ _ _ _ _ _ _ _ c.count_under-below.ensures c.count_under-within.ensures c.count_under.ensures c.max-reach.ensures c.requires.order

kept_below_next : (base next rbuf : ℕ) → base ≤ next - rbuf → base ≤ next
kept_below_next base next rbuf l = omega arith

again : (c : goal.After-repeat-arg-2-1) → IsAgain c.args.self.now c.take.new.self c.in_ok-met.met.items (c.args.start + c.count_under-within.result) (c.args.start + c.max-reach.result)
again c = again_from c.args.self.now c.meet.new.self c.take.new.self c.in_ok-met.met.items c.args.limit c.end.result c.args.start _ _ _ _ c.args.policy c.args.segment.now (cut c) (omega arith)
    (kept_below_next _ _ _ c.requires.ready.sized.kept) c.meet.ensures.place.0 c.meet.ensures.place.1 c.meet.ensures.grown c.in_ok-met.ensures.met c.in_ok-tally.ensures.cells

again_after : (c : goal.After-drop-met-2) → IsAgain c.args.self.now c.take.new.self c.in_ok-met.met.items (c.args.start + c.count_under-within.result) (c.args.start + c.max-reach.result)
again_after c = again_from c.args.self.now c.meet.new.self c.take.new.self c.in_ok-met.met.items c.args.limit c.end.result c.args.start _ _ _ _
    c.args.policy c.args.segment.now (cut_after c) (omega arith)
    (kept_below_next _ _ _ c.requires.ready.sized.kept) c.meet.ensures.place.0 c.meet.ensures.place.1 c.meet.ensures.grown c.in_ok-met.ensures.met c.in_ok-tally.ensures.cells

pub repeat-again-requires-clause-met : goal.repeat-again-requires-clause-met
repeat-again-requires-clause-met c p from below =
    let len = rest_end _ _ _ c.args.start _ _ _ c.args.segment.now (cut c) in
    ap (λ rs. is_covered rs p) c.deref.ensures.value
    ∙ accepted_again c.args.self.now c.take.new.self c.in_ok-met.met.items (c.args.start + c.count_under-within.result) (c.args.start + c.max-reach.result) (again c) p from (omega arith)

bounded : (c : goal.After-drop-met-2) (m : ℕ) → c.args.limit ≤ m → IsBounded c.args.self.now m → IsBounded c.forget.new.self m
bounded c m l old =
    let ready = same_bound c.args.self.now c.meet.new.self m c.meet.ensures.place.0 c.meet.ensures.place.1 old in
    let mid = c.in_ok-tally.ensures.bounded m (middle_end _ _ _ c.args.start _ _ _ _ c.args.segment.now (cut_after c) (omega arith) m l) ready in
    let laid = same_bound c.take.new.self c.repeat-again.new.self m c.repeat-again.ensures.place.0 c.repeat-again.ensures.place.1 mid in
    same_bound c.repeat-again.new.self c.forget.new.self m c.forget.ensures.place.0 c.forget.ensures.place.1 laid

rises : (c : goal.After-drop-met-2) → c.args.self.now.next ≤ c.repeat-again.new.self.next
rises c =
    let ready : c.meet.new.self.next ≡ c.args.self.now.next = c.meet.ensures.place.0 in
    let mid : c.meet.new.self.next ≤ c.take.new.self.next = c.in_ok-tally.ensures.rises in
    let laid : c.repeat-again.new.self.next ≡ c.take.new.self.next = c.repeat-again.ensures.place.0 in
    omega arith

sized : (c : goal.After-drop-met-2) → IsSized c.forget.new.self c.args.rbuf
sized c =
    let edge = c.args.self.now.next + c.args.rbuf in
    let old : IsBounded c.args.self.now edge = record { next = omega arith; runs = c.requires.ready.sized.span } in
    let new = bounded c edge c.requires.window old in
    let up = rises c in
    let next : c.forget.new.self.next ≡ c.repeat-again.new.self.next = c.forget.ensures.place.0 in
    record {
      kept = c.forget.ensures.low;
      stale = c.forget.ensures.stale;
      span = record { each = λ k l. let e : (run_at (runs_of c.forget.new.self.runs) k).end ≤ edge = new.runs.each k l in omega arith };
    }

placed : (c : goal.After-drop-met-2) (p : ℕ) → c.args.self.now.bytes.base ≤ p
    → cell_at c.repeat-again.new.self p ≡ placed_cell c.args.policy c.args.start c.args.segment.now
    c.count_under-below.result c.count_under-within.result c.max-reach.result p (cell_at c.args.self.now p)
placed c p l =
    cells_placed c.args.self.now c.meet.new.self c.take.new.self c.repeat-again.new.self c.args.start _ _ _ _ c.args.policy c.args.segment.now (omega arith)
    c.meet.ensures.place.0 c.meet.ensures.place.1 c.meet.ensures.grown c.in_ok-tally.ensures.base c.in_ok-tally.ensures.cells c.repeat-again.ensures.cells p l

steps : (c : goal.After-drop-met-2) (fin : Option ℕ)
    → StepsTo c.args.limit c.args.start c.args.segment.now c.args.policy (view_of c.args.self.now fin c.args.rbuf) (view_of c.forget.new.self fin c.args.rbuf)
steps c fin =
    steps_placed c.args.self.now c.repeat-again.new.self c.forget.new.self fin c.args.rbuf c.args.limit c.end.result c.args.start
    c.count_under-below.result c.count_under-within.result c.max-reach.result c.args.policy c.args.segment.now
    (record {
      old_laid = c.requires.ready.laid;
      old_kept = c.requires.ready.sized.kept;
      mid_laid = c.repeat-again.ensures.laid;
      rises = rises c;
      placed = placed c;
      new_laid = c.forget.ensures.laid;
      new_next = c.forget.ensures.place.0;
      new_runs = ap runs_of c.forget.ensures.place.1;
      new_kept = c.forget.ensures.low;
      new_bytes = c.forget.ensures.bytes;
    })
    c.end.ensures.bounded (cut_after c)

pub returns-clause-placed : goal.returns-clause-placed
returns-clause-placed c = record { laid = c.forget.ensures.laid; sized = sized c; bounded = bounded c; steps = steps c }

pub returns-clause-judged : goal.returns-clause-judged
returns-clause-judged c = record {
  counts = λ fin.
      let within = c.count_under-within.result in
      let below = c.count_under-below.result in
      let reach = c.max-reach.result in
      let segment = c.args.segment.now in
      let rest = take (reach - within) (drop within segment) in
      let told : c.repeat-again.result ≡ taken_tally c.args.self.now (c.args.start + within) rest
      = (rw c.deref.ensures.value at c.repeat-again.ensures.tally)
      ∙ tally_again c.args.self.now c.take.new.self c.in_ok-met.met.items (c.args.start + within) (c.args.start + reach) rest
      (rest_end _ _ _ c.args.start _ _ _ segment (cut_after c)) (again_after c) in
      counts_placed c.args.self.now fin c.args.rbuf c.args.limit c.end.result c.args.start below within reach segment c.requires.ready.laid c.end.ensures.bounded (cut_after c)
      c.in_ok-tally.tally c.repeat-again.result c.compare-differ.result _ (omega arith)
      (c.in_ok-tally.ensures.tally ∙ tally_met c.args.self.now c.meet.new.self _ (take (within - below) (drop below segment)) c.meet.ensures.place.1 c.meet.ensures.grown)
      told c.compare-differ.ensures.value;
  bounds = search rules;
}
