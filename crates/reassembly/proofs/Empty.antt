-- A segment of no bytes changes nothing.
use Rattle.std.proofs.Common.{◌≡◌, ℕ, ◌-◌, refl, ap, ◌∙◌, sym, arith, List, Option, None, is_some, length, slice_index, leb}
use Rattle.std.proofs.lemmas.Bool.{lt-leb, cond-false}
use Rattle.reassembly.specs.declared.answers.Policy.{Policy}
use Rattle.reassembly.specs.declared.window.Window.{Window}
use Rattle.reassembly.specs.Receiver.{held}
use Rattle.reassembly.specs.Segment.{cell_after, has_byte, held_after}
use Rattle.reassembly.specs.Steps.{StepsTo}
use Rattle.reassembly.specs.Window.{cell_at, view_of, IsLaid}
use Rattle.reassembly.proofs.KeptRuns.{kept_none}
use Rattle.reassembly.proofs.Placing.{held_viewed, next_open, no_byte}

pub nothing_changes : (w : Window) (fin : Option ℕ) (rbuf limit start : ℕ) (segment : List ℕ) (policy : Policy) → IsLaid w → length segment ≡ 0
    → StepsTo limit start segment policy (view_of w fin rbuf) (view_of w fin rbuf)
nothing_changes w fin rbuf limit start segment policy laid none =
    let cell : ℕ → Option ℕ = λ p. held (view_of w fin rbuf).kept p in
    let same : (p : ℕ) → held_after w.next limit policy start segment p (cell p) ≡ cell p = λ p.
    cond-false (has_byte start segment p) (cell_after w.next limit policy p (cell p) (slice_index segment (p - start))) (cell p) (no_byte start segment p (λ f g. omega arith)) in
    let seen : (p : ℕ) → cell p ≡ _ = held_viewed w fin rbuf laid in
    record {
      fin = refl;
      rbuf = refl;
      rises = omega arith;
      filled = λ p l b. absurd (omega arith);
      empty = ap is_some (same w.next ∙ seen w.next) ∙ kept_none w rbuf w.next (next_open w laid.above);
      cells = λ p l. sym (same p);
      forgotten = λ p l. seen p ∙ cond-false (leb (w.next - rbuf) p) (cell_at w p) None (lt-leb (w.next - rbuf) p l);
    }
