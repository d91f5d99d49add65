use Rattle.std.proofs.Common.{◌≡◌, ◌∙◌, ◌+◌, ◌≤◌, ◌+ℤ◌, ℤ, pos, ap, ap₂, sym, subst, to_z-of_z, rules}
use Rattle.reassembly.specs.declared.answers.Placed.{Placed}
use Rattle.reassembly.specs.Receiver.{next_of, wide_of, limit_of}
use Rattle.reassembly.specs.Segment.{accept, counts, from_zero, below_zero}
use Rattle.reassembly.specs.View.{StandsFor, StreamView}
use Rattle.reassembly.specs.Buffer.{window_of}
use Rattle.reassembly.specs.Window.{view_of}
use Rattle.reassembly.proofs.NoBytes.{nothing_stands, nothing_counts}
use Rattle.reassembly.proofs.Streams.{next_limit, limit_within, limit_fin, whole_same, stream_stands, stream_counts}
use Rattle.reassembly.proofs.stream.Stream.place.Goals as goal

pub returns-then-is_empty-clause-stands : goal.returns-then-is_empty-clause-stands
returns-then-is_empty-clause-stands c r h is_wide =
    nothing_stands c.args.self.now r (pos (next_of r.cells) +ℤ c.args.d) c.args.bytes.now c.args.policy (search rules) h

pub returns-then-is_empty-clause-counts : goal.returns-then-is_empty-clause-counts
returns-then-is_empty-clause-counts c r h is_wide =
    nothing_counts r (pos (next_of r.cells) +ℤ c.args.d) c.args.bytes.now c.args.self.now.rbuf (search rules)

pub place-requires-clause-order : goal.place-requires-clause-order
place-requires-clause-order c = rw (c.limit-limit.ensures, c.self.invariant.1) (next_limit _ _ _ _ c.self.invariant.0)

pub place-requires-clause-window : goal.place-requires-clause-window
place-requires-clause-window c = rw (c.limit-limit.ensures, c.self.invariant.1) (limit_within _ _ _ _ (subst (λ (k : StreamView). c.args.wide ≤ k.rbuf) (sym c.self.view_is) c.requires.wide))

pub invariant_of-self : goal.invariant_of-self
invariant_of-self c = (whole_same _ _ _ _ c.in_err-placed.ensures.err c.self.invariant.0, c.self.invariant.1 ∙ sym c.in_err-placed.ensures.err.next)

pub invariant_of-self-2 : goal.invariant_of-self-2
invariant_of-self-2 c =
    let old = c.self.invariant.0 in (
      record {
        laid = c.in_ok-placed.ensures.placed.laid;
        sized = c.in_ok-placed.ensures.placed.sized;
        least = old.least;
        most = old.most;
        fin = λ f e. c.in_ok-placed.ensures.placed.bounded f (rw c.limit-limit.ensures (limit_fin _ _ _ f e)) (old.fin f e);
      },
      c.next-self-inside.ensures,
    )

-- a signed argument stands in a call's clause as its bits
begins : (c : goal.After-behind_old) → c.start_of-start.result.position ≡ from_zero (pos (window_of c.self.inside.buffer).next +ℤ c.args.d)
begins c = c.start_of-start.ensures.position ∙ ap₂ (λ x (z : ℤ). from_zero (pos x +ℤ z)) c.self.invariant.1 (to_z-of_z c.ranges.d)

begins_below : (c : goal.After-behind_old) → c.start_of-start.result.below ≡ below_zero (pos (window_of c.self.inside.buffer).next +ℤ c.args.d)
begins_below c = c.start_of-start.ensures.below ∙ ap₂ (λ x (z : ℤ). below_zero (pos x +ℤ z)) c.self.invariant.1 (to_z-of_z c.ranges.d)

ends : (c : goal.After-behind_old) → c.limit-limit.result ≡ limit_of (window_of c.self.inside.buffer).next c.self.inside.fin c.args.wide
ends c = c.limit-limit.ensures ∙ ap (λ x. limit_of x c.self.inside.fin c.args.wide) c.self.invariant.1

pub returns-clause-stands : goal.returns-clause-stands
returns-clause-stands c r h is_wide =
    let s = c.self.inside in
    subst (λ (k : StreamView). StandsFor k r → c.args.wide ≡ wide_of r k.rbuf
    → StandsFor (view_of (window_of c.place.new.self) s.fin s.rbuf) (accept r (pos (next_of r.cells) +ℤ c.args.d) c.args.bytes.now c.args.policy k.rbuf)) c.self.view_is
    (stream_stands (window_of s.buffer) (window_of c.place.new.self) s.fin s.rbuf c.args.wide c.limit-limit.result c.args.d c.args.bytes.now c.args.policy
    c.start_of-start.result.position c.start_of-start.result.below c.min-below.result
    (begins c) (begins_below c) c.min-below.ensures (ends c) (c.in_ok-placed.ensures.placed.steps s.fin) r)
    h is_wide

pub returns-clause-counts : goal.returns-clause-counts
returns-clause-counts c r h is_wide =
    let s = c.self.inside in
    let placed = c.in_ok-placed.placed in
    let made : Placed = record { new = placed.new; old = c.min-below.result + placed.old; differ = placed.differ; over = placed.over } in
    c.behind_old.ensures ∙ subst (λ (k : StreamView). StandsFor k r → c.args.wide ≡ wide_of r k.rbuf → made ≡ counts r (pos (next_of r.cells) +ℤ c.args.d) c.args.bytes.now k.rbuf) c.self.view_is
    (stream_counts (window_of s.buffer) s.fin s.rbuf c.args.wide c.limit-limit.result c.args.d c.args.bytes.now c.start_of-start.result.position c.start_of-start.result.below c.min-below.result placed
    (begins c) (begins_below c) c.min-below.ensures (ends c) (c.in_ok-placed.ensures.judged.counts s.fin) r)
    h is_wide
