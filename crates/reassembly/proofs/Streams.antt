-- A stream's calls, told over its window.
use Rattle.std.proofs.Common.{◌≡◌, ℕ, ◌+◌, ◌-◌, ◌<◌, ◌≤◌, min, true, false, refl, ap, ap₂, ◌∙◌, subst, arith, ℤ, pos, ◌+ℤ◌, List, Option, Some, None, is_some, is_none, length, map, take, drop, leb, le-leb}
use Rattle.std.specs.List.{range_with_len, prefix_len}
use Rattle.std.proofs.lemmas.Bool.{lt-leb, cond-true, cond-false}
use Rattle.std.proofs.lemmas.List.{drop_min, take_rest}
use Rattle.std.proofs.lemmas.List.FromFn.{get_or-map-range_with_len, length-map-range_with_len}
use Rattle.std.proofs.lemmas.List.Sums.{prefix_len_is}
use Rattle.reassembly.specs.declared.answers.Policy.{Policy}
use Rattle.reassembly.specs.declared.answers.Placed.{Placed}
use Rattle.reassembly.specs.declared.window.Window.{Window}
use Rattle.reassembly.specs.Receiver.{Receiver, held, next_of, kept, low_of, wide_of, limit_of, limit_at}
use Rattle.reassembly.specs.Segment.{accept, accept_at, counts, counts_at, from_zero, below_zero}
use Rattle.reassembly.specs.View.{StandsFor}
use Rattle.reassembly.specs.Steps.{StepsTo, counts_viewed}
use Rattle.reassembly.specs.Window.{view_of, IsWhole, IsSameWindow}
use Rattle.reassembly.proofs.Cells.{below_next}
use Rattle.reassembly.proofs.Laws.{stands_after, counts_stand}

-- the limit lies at next or above it, in the window and at a noted FIN or below it
pub next_limit : (w : Window) (fin : Option ℕ) (rbuf wide : ℕ) → IsWhole w fin rbuf → w.next ≤ limit_of w.next fin wide
next_limit w None rbuf wide h = omega arith
next_limit w (Some f) rbuf wide h = let next : w.next ≤ f = (h.fin f refl).next in omega arith

pub limit_within : (next : ℕ) (fin : Option ℕ) (wide rbuf : ℕ) → wide ≤ rbuf → limit_of next fin wide ≤ next + rbuf
limit_within next None wide rbuf l = omega arith
limit_within next (Some f) wide rbuf l = omega arith

pub limit_fin : (next : ℕ) (fin : Option ℕ) (wide f : ℕ) → fin ≡ Some f → limit_of next fin wide ≤ f
limit_fin next fin wide f e = rw e (omega arith)

-- the limit of the stream is that of whichever receiver it stands for
limit_same : (w : Window) (fin : Option ℕ) (rbuf wide limit : ℕ) → limit ≡ limit_of w.next fin wide
    → (r : Receiver) → StandsFor (view_of w fin rbuf) r → wide ≡ wide_of r rbuf → limit ≡ limit_at r rbuf
limit_same w fin rbuf wide limit is_limit r h is_wide = is_limit ∙ ap₂ (λ n f. limit_of n f wide) h.next h.fin ∙ ap (limit_of (next_of r.cells) r.fin) is_wide

-- the same content has the same invariant
pub whole_same : (old new : Window) (fin : Option ℕ) (rbuf : ℕ) → IsSameWindow old new → IsWhole old fin rbuf → IsWhole new fin rbuf
whole_same old new fin rbuf same h = record {
  laid = record {
    keyed = same.keyed;
    held = λ p l e. same.held p (h.laid.held p (rw same.base at l) (rw (same.next, same.runs) at e));
    ordered = rw same.runs h.laid.ordered;
    above = rw (same.runs, same.next) h.laid.above;
  };
  sized = record {
    kept = rw (same.base, same.next) h.sized.kept;
    stale = rw (same.base, same.next) h.sized.stale;
    span = rw (same.runs, same.next) h.sized.span;
  };
  least = h.least;
  most = h.most;
  fin = λ f e. let b = h.fin f e in record { next = rw same.next b.next; runs = rw same.runs b.runs };
}

-- the bytes from the cut on are those at or above position 0
pub cut_bytes : (below cut : ℕ) (bytes : List ℕ) → cut ≡ min below (length bytes) → take (length bytes - cut) (drop cut bytes) ≡ drop below bytes
cut_bytes below cut bytes e = take_rest bytes cut ∙ ap (λ n. drop n bytes) e ∙ drop_min below bytes

pub stream_stands : (w n : Window) (fin : Option ℕ) (rbuf wide limit : ℕ) (d : ℤ) (bytes : List ℕ) (policy : Policy) (position below cut : ℕ)
    → position ≡ from_zero (pos w.next +ℤ d) → below ≡ below_zero (pos w.next +ℤ d) → cut ≡ min below (length bytes)
    → limit ≡ limit_of w.next fin wide → StepsTo limit position (take (length bytes - cut) (drop cut bytes)) policy (view_of w fin rbuf) (view_of n fin rbuf)
    → (r : Receiver) → StandsFor (view_of w fin rbuf) r → wide ≡ wide_of r rbuf → StandsFor (view_of n fin rbuf) (accept r (pos (next_of r.cells) +ℤ d) bytes policy rbuf)
unfolding accept
stream_stands w n fin rbuf wide limit d bytes policy position below cut at under e is_limit step r h is_wide =
    let stood = stands_after limit position (take (length bytes - cut) (drop cut bytes)) policy (view_of w fin rbuf) (view_of n fin rbuf) step r h
    (limit_same w fin rbuf wide limit is_limit r h is_wide) in
    let next : w.next ≡ next_of r.cells = h.next in
    let q : from_zero (pos w.next +ℤ d) ≡ from_zero (pos (next_of r.cells) +ℤ d) = ap (λ x. from_zero (pos x +ℤ d)) next in
    let b : below_zero (pos w.next +ℤ d) ≡ below_zero (pos (next_of r.cells) +ℤ d) = ap (λ x. below_zero (pos x +ℤ d)) next in
    let same : drop below bytes ≡ drop (below_zero (pos (next_of r.cells) +ℤ d)) bytes = ap (λ k. drop k bytes) (under ∙ b) in
    subst (λ (x : ℕ × List ℕ). StandsFor (view_of n fin rbuf) (accept_at r x.0 x.1 policy rbuf))
    (ap₂ (λ x y. (x, y)) (at ∙ q) (cut_bytes below cut bytes e ∙ same)) stood

pub stream_counts : (w : Window) (fin : Option ℕ) (rbuf wide limit : ℕ) (d : ℤ) (bytes : List ℕ) (position below cut : ℕ) (placed : Placed)
    → position ≡ from_zero (pos w.next +ℤ d) → below ≡ below_zero (pos w.next +ℤ d) → cut ≡ min below (length bytes)
    → limit ≡ limit_of w.next fin wide → placed ≡ counts_viewed (view_of w fin rbuf) limit position (take (length bytes - cut) (drop cut bytes))
    → (r : Receiver) → StandsFor (view_of w fin rbuf) r → wide ≡ wide_of r rbuf
    → record { new = placed.new; old = cut + placed.old; differ = placed.differ; over = placed.over } ≡ counts r (pos (next_of r.cells) +ℤ d) bytes rbuf
unfolding counts
stream_counts w fin rbuf wide limit d bytes position below cut placed at under e is_limit told r h is_wide =
    let next : w.next ≡ next_of r.cells = h.next in
    let q : from_zero (pos w.next +ℤ d) ≡ from_zero (pos (next_of r.cells) +ℤ d) = ap (λ x. from_zero (pos x +ℤ d)) next in
    let b : below_zero (pos w.next +ℤ d) ≡ below_zero (pos (next_of r.cells) +ℤ d) = ap (λ x. below_zero (pos x +ℤ d)) next in
    let same : drop below bytes ≡ drop (below_zero (pos (next_of r.cells) +ℤ d)) bytes = ap (λ k. drop k bytes) (under ∙ b) in
    let all : placed ≡ counts_at r (from_zero (pos (next_of r.cells) +ℤ d)) (drop (below_zero (pos (next_of r.cells) +ℤ d)) bytes) rbuf
    = told ∙ counts_stand limit position (take (length bytes - cut) (drop cut bytes)) (view_of w fin rbuf) r h (limit_same w fin rbuf wide limit is_limit r h is_wide)
    ∙ ap₂ (λ x y. counts_at r x y rbuf) (at ∙ q) (cut_bytes below cut bytes e ∙ same) in
    let made : ℕ → Placed → Placed = λ k c. record { new = c.new; old = k + c.old; differ = c.differ; over = c.over } in
    ap₂ made (e ∙ ap (λ k. min k (length bytes)) (under ∙ b)) all

none_of_some : (c : Option ℕ) → is_some c ≡ true → is_none c ≡ false
none_of_some None e = absurd (cc e)
none_of_some (Some x) e = refl

-- the lowest kept position is rbuf below next, or 0
pub low_is : (w : Window) (fin : Option ℕ) (rbuf : ℕ) → 1 ≤ rbuf → (r : Receiver) → StandsFor (view_of w fin rbuf) r → w.next - rbuf ≡ low_of r.cells rbuf
unfolding low_of
low_is w fin rbuf some r h =
    let next : w.next ≡ next_of r.cells = h.next in
    let n = next_of r.cells in
    let cell : ℕ → Option ℕ = kept r.cells rbuf in
    let len : length (map cell (range_with_len 0 n)) ≡ n = length-map-range_with_len cell 0 n in
    let at : (k : ℕ) → k < n → held (map cell (range_with_len 0 n)) k ≡ cell k = λ k l. get_or-map-range_with_len cell 0 n k k None l (omega arith) in
    let none_below : (k : ℕ) → k < n - rbuf → is_none (held (map cell (range_with_len 0 n)) k) ≡ true = λ k l.
    ap is_none (at k (omega arith) ∙ cond-false (leb (n - rbuf) k) (held r.cells k) None (lt-leb (n - rbuf) k l)) in
    let some_at : n - rbuf < length (map cell (range_with_len 0 n)) → is_none (held (map cell (range_with_len 0 n)) (n - rbuf)) ≡ false = λ l.
    ap is_none (at (n - rbuf) (omega arith) ∙ cond-true (leb (n - rbuf) (n - rbuf)) (held r.cells (n - rbuf)) None (le-leb (n - rbuf) (n - rbuf) (omega arith)))
    ∙ none_of_some (held r.cells (n - rbuf)) (below_next r.cells (n - rbuf) (omega arith)) in
    let found : prefix_len is_none (map cell (range_with_len 0 n)) ≡ n - rbuf = prefix_len_is is_none (map cell (range_with_len 0 n)) (n - rbuf) None (omega arith) none_below some_at in
    omega (arith, found)
