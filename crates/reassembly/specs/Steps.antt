-- Only for proofs. One segment, told from what a stream knows and with no receiver in sight.
use Rattle.std.specs.Prelude.{◌≡◌, ℕ, ◌+◌, ◌-◌, ◌<◌, ◌≤◌, true, false, List, None, is_some, length, slice_index}
use Rattle.reassembly.specs.declared.answers.Policy.{Policy}
use Rattle.reassembly.specs.declared.answers.Placed.{Placed}
use Rattle.reassembly.specs.Receiver.{held}
use Rattle.reassembly.specs.Segment.{is_old, is_new, is_beyond, is_differing, held_after, count_below}
use Rattle.reassembly.specs.View.{StreamView}

-- what a stream knows after a segment of bytes from q on, of which none is accepted anew from the limit on, told from
-- what it knew
pub record StepsTo (limit q : ℕ) (bytes : List ℕ) (policy : Policy) (s n : StreamView) : Type 0 where
  pub fin : n.fin ≡ s.fin
  pub rbuf : n.rbuf ≡ s.rbuf
  pub rises : s.next ≤ n.next
  pub filled : (p : ℕ) → s.next ≤ p → p < n.next
      → is_some (held_after s.next limit policy q bytes p (held s.kept p)) ≡ true
  pub empty : is_some (held_after s.next limit policy q bytes n.next (held s.kept n.next)) ≡ false
  pub cells : (p : ℕ) → n.next - n.rbuf ≤ p → held n.kept p ≡ held_after s.next limit policy q bytes p (held s.kept p)
  pub forgotten : (p : ℕ) → p < n.next - n.rbuf → held n.kept p ≡ None

-- how the segment's bytes are judged, told from what the stream knows
abbrev pub counts_viewed : StreamView → ℕ → ℕ → List ℕ → Placed
counts_viewed s limit q bytes = record {
  new = count_below (λ i. is_new s.next limit (q + i) (held s.kept (q + i))) (length bytes);
  old = count_below (λ i. is_old s.next (q + i) (held s.kept (q + i))) (length bytes);
  differ = count_below (λ i. is_differing s.next s.rbuf (q + i) (held s.kept (q + i)) (slice_index bytes i)) (length bytes);
  over = count_below (λ i. is_beyond s.next limit (q + i) (held s.kept (q + i))) (length bytes);
}
