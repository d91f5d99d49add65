-- One segment over the cells that a stream knows is the model's step for every receiver that the stream stands for.
use Rattle.std.proofs.Common.{◌≡◌, ℕ, ◌+◌, ◌-◌, ◌<◌, ◌≤◌, true, false, cond, not, ◌&&◌, ◌||◌, refl, ap, ◌∙◌, sym, arith, List, Option, Some, None, length, is_some, max, ⊎_elim, leb, ltb, le-leb, lt-ltb, le-ltb}
use Rattle.std.proofs.lemmas.Bool.{cases_lt, lt-leb, cond-true, cond-false}
use Rattle.std.specs.Prelude.{slice_index}
use Rattle.reassembly.specs.declared.answers.Policy.{Policy}
use Rattle.reassembly.specs.declared.answers.Placed.{Placed}
use Rattle.reassembly.specs.Receiver.{Receiver, held, next_of, limit_at}
use Rattle.reassembly.specs.Segment.{is_old, is_new, is_beyond, is_differing, is_last, cell_after, has_byte, held_after, accept_at, count_below, counts_at}
use Rattle.reassembly.specs.View.{StreamView, StandsFor}
use Rattle.reassembly.specs.Steps.{StepsTo, counts_viewed}
use Rattle.reassembly.proofs.Cells.{held_made, held_made_past, held_past, below_next, next_is}
use Rattle.reassembly.proofs.Counts.{count_below-same}

-- a byte leaves no cell empty that was filled
is_some_after : (next limit : ℕ) (policy : Policy) (q : ℕ) (bytes : List ℕ) (p : ℕ) (c : Option ℕ) → is_some c ≡ true → is_some (held_after next limit policy q bytes p c) ≡ true
is_some_after next limit policy q bytes p c e =
    elim (has_byte q bytes p) as (λ b. is_some (cond b (cell_after next limit policy p c (slice_index bytes (p - q))) c) ≡ true) [
      | true ↦ elim (is_new next limit p c || (is_last policy && (is_old next p c && leb next p))) as (λ b. is_some (cond b (Some (slice_index bytes (p - q))) c) ≡ true) [ true ↦ refl | false ↦ e ]
      | false ↦ e
    ]

-- past the segment a cell stays as it was
after_past : (next limit : ℕ) (policy : Policy) (q : ℕ) (bytes : List ℕ) (p : ℕ) (c : Option ℕ) → q + length bytes ≤ p → held_after next limit policy q bytes p c ≡ c
after_past next limit policy q bytes p c l =
    let out : ltb p (q + length bytes) ≡ false = le-ltb p (q + length bytes) l in
    rw out (elim (leb q p) as (λ b. cond (b && false) (cell_after next limit policy p c (slice_index bytes (p - q))) c ≡ c) [ true ↦ refl | false ↦ refl ])

-- the model's cells, position by position
pub held_accepted : (r : Receiver) (q : ℕ) (bytes : List ℕ) (policy : Policy) (rbuf p : ℕ)
    → held (accept_at r q bytes policy rbuf).cells p ≡ held_after (next_of r.cells) (limit_at r rbuf) policy q bytes p (held r.cells p)
held_accepted r q bytes policy rbuf p =
    let next = next_of r.cells in
    let limit = limit_at r rbuf in
    let end = max (length r.cells) (q + length bytes) in
    let step : ℕ → Option ℕ = λ x. held_after next limit policy q bytes x (held r.cells x) in
    ⊎_elim
    (λ (l : p < end). held_made step end p l)
    (λ (l : end ≤ p).
    let none : held r.cells p ≡ None = held_past r.cells p (omega arith) in
    held_made_past step end p l ∙ sym (after_past next limit policy q bytes p (held r.cells p) (omega arith) ∙ none))
    (cases_lt p end)

-- the kept cell is the receiver's
pub viewed_cell : (s : StreamView) (r : Receiver) → StandsFor s r → (p : ℕ) → s.next - s.rbuf ≤ p → held s.kept p ≡ held r.cells p
viewed_cell s r h p l =
    let e : s.next ≡ next_of r.cells = h.next in
    let low : next_of r.cells - s.rbuf ≤ p = rw (← e) l in
    h.cells p ∙ cond-true (leb (next_of r.cells - s.rbuf) p) (held r.cells p) None (le-leb (next_of r.cells - s.rbuf) p low)

pub stands_after : (limit q : ℕ) (bytes : List ℕ) (policy : Policy) (s n : StreamView) → StepsTo limit q bytes policy s n
    → (r : Receiver) → StandsFor s r → limit ≡ limit_at r s.rbuf → StandsFor n (accept_at r q bytes policy s.rbuf)
stands_after limit q bytes policy s n step r h is_limit =
    let after : ℕ → Option ℕ = λ p. held_after s.next limit policy q bytes p (held r.cells p) in
    let acc = accept_at r q bytes policy s.rbuf in
    let same_next : s.next ≡ next_of r.cells = h.next in
    let same_fin : s.fin ≡ r.fin = h.fin in
    let cell : (p : ℕ) → held acc.cells p ≡ after p = λ p. rw (same_next, is_limit) (held_accepted r q bytes policy s.rbuf p) in
    let known : (p : ℕ) → s.next - s.rbuf ≤ p → held_after s.next limit policy q bytes p (held s.kept p) ≡ after p
    = λ p l. ap (λ c. held_after s.next limit policy q bytes p c) (viewed_cell s r h p l) in
    let filled : (p : ℕ) → p < n.next → is_some (held acc.cells p) ≡ true = λ p l. rw cell (⊎_elim
    (λ (b : p < s.next). is_some_after s.next limit policy q bytes p (held r.cells p) (below_next r.cells p (rw (← same_next) b)))
    (λ (b : s.next ≤ p). ap is_some (sym (known p (omega arith))) ∙ step.filled p b l)
    (cases_lt p s.next)) in
    let rises : s.next ≤ n.next = step.rises in
    let empty : is_some (held acc.cells n.next) ≡ false = rw cell (ap is_some (sym (known n.next (omega arith))) ∙ step.empty) in
    let next : next_of acc.cells ≡ n.next = next_is acc.cells n.next filled empty in
    let same_rbuf : n.rbuf ≡ s.rbuf = step.rbuf in
    record {
      next = sym next;
      fin = step.fin ∙ same_fin;
      cells = λ p. rw next (⊎_elim
          (λ (l : p < n.next - n.rbuf). step.forgotten p l ∙ sym (cond-false (leb (n.next - n.rbuf) p) (held acc.cells p) None (lt-leb (n.next - n.rbuf) p l)))
          (λ (l : n.next - n.rbuf ≤ p). step.cells p l ∙ known p (omega arith) ∙ sym (cell p) ∙ sym (cond-true (leb (n.next - n.rbuf) p) (held acc.cells p) None (le-leb (n.next - n.rbuf) p l)))
          (cases_lt p (n.next - n.rbuf)));
    }

-- a cell below next is old whatever it holds, and one that isn't kept is never compared
old_same : (s : StreamView) (r : Receiver) → StandsFor s r → (p : ℕ) → is_old s.next p (held s.kept p) ≡ is_old s.next p (held r.cells p)
old_same s r h p = ⊎_elim
    (λ (l : p < s.next). let e : ltb p s.next ≡ true = lt-ltb p s.next l in rw e refl)
    (λ (l : s.next ≤ p). ap (is_old s.next p) (viewed_cell s r h p (omega arith)))
    (cases_lt p s.next)

not_compared : (next rbuf p b : ℕ) (c : Option ℕ) → p < next - rbuf → is_differing next rbuf p c b ≡ false
not_compared next rbuf p b c l =
    let e : leb (next - rbuf) p ≡ false = lt-leb (next - rbuf) p l in
    elim c as (λ o. is_differing next rbuf p o b ≡ false) [ Some a ↦ rw e refl | None ↦ refl ]

differing_same : (s : StreamView) (r : Receiver) → StandsFor s r → (p b : ℕ) → is_differing s.next s.rbuf p (held s.kept p) b ≡ is_differing s.next s.rbuf p (held r.cells p) b
differing_same s r h p b = ⊎_elim
    (λ (l : p < s.next - s.rbuf). not_compared s.next s.rbuf p b (held s.kept p) l ∙ sym (not_compared s.next s.rbuf p b (held r.cells p) l))
    (λ (l : s.next - s.rbuf ≤ p). ap (λ c. is_differing s.next s.rbuf p c b) (viewed_cell s r h p l))
    (cases_lt p (s.next - s.rbuf))

pub placed_is : (a b : Placed) → a.new ≡ b.new → a.old ≡ b.old → a.differ ≡ b.differ → a.over ≡ b.over → a ≡ b
placed_is a b n o d v =
    let made : ℕ → ℕ → ℕ → ℕ → Placed = λ w x y z. record { new = w; old = x; differ = y; over = z } in
    ap (λ w. made w a.old a.differ a.over) n ∙ ap (λ x. made b.new x a.differ a.over) o ∙ ap (λ y. made b.new b.old y a.over) d ∙ ap (λ z. made b.new b.old b.differ z) v

pub counts_stand : (limit q : ℕ) (bytes : List ℕ) (s : StreamView) (r : Receiver) → StandsFor s r → limit ≡ limit_at r s.rbuf
    → counts_viewed s limit q bytes ≡ counts_at r q bytes s.rbuf
counts_stand limit q bytes s r h is_limit =
    let same_next : s.next ≡ next_of r.cells = h.next in
    let limit_is : limit_at r s.rbuf ≡ limit = sym is_limit in
    let told : Placed = record {
      new = count_below (λ i. is_new s.next limit (q + i) (held r.cells (q + i))) (length bytes);
      old = count_below (λ i. is_old s.next (q + i) (held r.cells (q + i))) (length bytes);
      differ = count_below (λ i. is_differing s.next s.rbuf (q + i) (held r.cells (q + i)) (slice_index bytes i)) (length bytes);
      over = count_below (λ i. is_beyond s.next limit (q + i) (held r.cells (q + i))) (length bytes);
    } in
    let same : counts_viewed s limit q bytes ≡ told = placed_is (counts_viewed s limit q bytes) told
    (count_below-same (λ i. is_new s.next limit (q + i) (held s.kept (q + i))) (λ i. is_new s.next limit (q + i) (held r.cells (q + i)))
    (length bytes) (λ i l. ap (λ b. not b && ltb (q + i) limit) (old_same s r h (q + i))))
    (count_below-same (λ i. is_old s.next (q + i) (held s.kept (q + i))) (λ i. is_old s.next (q + i) (held r.cells (q + i))) (length bytes) (λ i l. old_same s r h (q + i)))
    (count_below-same (λ i. is_differing s.next s.rbuf (q + i) (held s.kept (q + i)) (slice_index bytes i))
    (λ i. is_differing s.next s.rbuf (q + i) (held r.cells (q + i)) (slice_index bytes i)) (length bytes) (λ i l. differing_same s r h (q + i) (slice_index bytes i)))
    (count_below-same (λ i. is_beyond s.next limit (q + i) (held s.kept (q + i))) (λ i. is_beyond s.next limit (q + i) (held r.cells (q + i)))
    (length bytes) (λ i l. ap (λ b. not b && leb limit (q + i)) (old_same s r h (q + i)))) in
    rw (limit_is, ← same_next) same
