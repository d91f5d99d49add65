-- The plain receiver's cells and counts are the definition's.
use Rattle.std.proofs.Common.{◌≡◌, ℕ, ◌+◌, ◌-◌, ◌<◌, ◌≤◌, min, max, true, suc, refl, ap, ap₂, ◌∙◌, sym, arith, ℤ, pos, ◌+ℤ◌, List, Option, None, length, slice_index, slice_index_or, take, drop, set, leb, ltb, le-leb, lt-ltb, ⊎_elim, ext_get_or, get_or-set_same, get_or-set_other}
use Rattle.std.proofs.lemmas.Bool.{cases_lt, cases_eq, and_from}
use Rattle.std.proofs.lemmas.List.FromFn.{length-map-range_with_len}
use Rattle.reassembly.specs.declared.answers.Policy.{Policy}
use Rattle.reassembly.specs.declared.answers.Placed.{Placed}
use Rattle.reassembly.specs.declared.plain.Before.{Before}
use Rattle.reassembly.specs.Receiver.{Receiver, held, next_of, limit_at}
use Rattle.reassembly.specs.Segment.{is_old, is_new, is_beyond, is_differing, cell_after, has_byte, held_after, accept, accept_at, counts, counts_at, from_zero, below_zero}
use Rattle.reassembly.specs.Plain.{judged_below, counted_more}
use Rattle.reassembly.proofs.Counts.{count_below-same, count_below-le}
use Rattle.reassembly.proofs.Cells.{held_past}
use Rattle.reassembly.proofs.Laws.{held_accepted, placed_is}
use Rattle.reassembly.proofs.Streams.{cut_bytes}

pub record AreFew (p : Placed) (n : ℕ) : Type 0 where
  pub new : p.new ≤ n
  pub old : p.old ≤ n
  pub differ : p.differ ≤ n
  pub over : p.over ≤ n

pub judged_few : (before : Before) (q : ℕ) (bytes : List ℕ) (cells : List (Option ℕ)) (n : ℕ) (p : Placed) → p ≡ judged_below before q bytes cells n → AreFew p n
judged_few before q bytes cells n p e = rw e (record {
  new = count_below-le (λ i. is_new before.next before.limit (q + i) (held cells (q + i))) n;
  old = count_below-le (λ i. is_old before.next (q + i) (held cells (q + i))) n;
  differ = count_below-le (λ i. is_differing before.next before.rbuf (q + i) (held cells (q + i)) (slice_index bytes i)) n;
  over = count_below-le (λ i. is_beyond before.next before.limit (q + i) (held cells (q + i))) n;
})

pub judged_more : (before : Before) (q : ℕ) (bytes : List ℕ) (cells : List (Option ℕ)) (n : ℕ)
    → counted_more (judged_below before q bytes cells n) before (q + n) (held cells (q + n)) (slice_index bytes n) ≡ judged_below before q bytes cells (suc n)
judged_more before q bytes cells n = placed_is _ _ (omega arith) (omega arith) (omega arith) (omega arith)

-- the i-th byte is written
pub written_more : (next limit : ℕ) (policy : Policy) (start i : ℕ) (bytes : List ℕ) (old cells : List (Option ℕ)) (w : Option ℕ)
    → start + length bytes ≤ length cells → i < length bytes
    → ((p : ℕ) → p < start + i → held cells p ≡ held_after next limit policy start bytes p (held old p))
    → ((p : ℕ) → start + i ≤ p → held cells p ≡ held old p)
    → w ≡ cell_after next limit policy (start + i) (held old (start + i)) (slice_index bytes i)
    → (p : ℕ) → p < start + suc i → held (set cells (start + i) w) p ≡ held_after next limit policy start bytes p (held old p)
written_more next limit policy start i bytes old cells w within l done rest e p b = ⊎_elim
    (λ (same : p ≡ start + i).
    let here : has_byte start bytes (start + i) ≡ true = and_from (leb start (start + i)) (ltb (start + i) (start + length bytes))
    (le-leb start (start + i) (omega arith)) (lt-ltb (start + i) (start + length bytes) (omega arith)) in
    let back : start + i - start ≡ i = omega arith in
    rw same (get_or-set_same cells (start + i) w None (omega arith) ∙ e ∙ (rw (here, back) refl)))
    (λ (other : p ≡ start + i → ⊥). get_or-set_other cells (start + i) p w None other ∙ done p (omega arith))
    (cases_eq p (start + i))

pub plain_cells : (r : Receiver) (q rbuf : ℕ) (bytes : List ℕ) (policy : Policy) (mid new : List (Option ℕ))
    → length new ≡ length mid → length mid ≡ max (length r.cells) (q + length bytes) → ((p : ℕ) → held mid p ≡ held r.cells p)
    → ((p : ℕ) → held new p ≡ held_after (next_of r.cells) (limit_at r rbuf) policy q bytes p (held mid p))
    → new ≡ (accept_at r q bytes policy rbuf).cells
plain_cells r q rbuf bytes policy mid new same len start after =
    let acc = (accept_at r q bytes policy rbuf).cells in
    let end = max (length r.cells) (q + length bytes) in
    let length_acc : length acc ≡ end = length-map-range_with_len (λ p. held_after (next_of r.cells) (limit_at r rbuf) policy q bytes p (held r.cells p)) 0 end in
    ext_get_or None new acc (same ∙ len ∙ sym length_acc)
    (λ i l. after i ∙ ap (held_after (next_of r.cells) (limit_at r rbuf) policy q bytes i) (start i) ∙ sym (held_accepted r q bytes policy rbuf i))

pub plain_counts : (r : Receiver) (q rbuf : ℕ) (bytes : List ℕ) (mid : List (Option ℕ)) (before : Before)
    → before ≡ record { next = next_of r.cells; limit = limit_at r rbuf; rbuf = rbuf } → ((p : ℕ) → held mid p ≡ held r.cells p)
    → judged_below before q bytes mid (length bytes) ≡ counts_at r q bytes rbuf
plain_counts r q rbuf bytes mid before e start =
    let next = next_of r.cells in
    let limit = limit_at r rbuf in
    let told : Before = record { next = next; limit = limit; rbuf = rbuf } in
    ap (λ (b : Before). judged_below b q bytes mid (length bytes)) e ∙ placed_is (judged_below told q bytes mid (length bytes)) (counts_at r q bytes rbuf)
    (count_below-same (λ i. is_new next limit (q + i) (held mid (q + i))) (λ i. is_new next limit (q + i) (held r.cells (q + i))) (length bytes)
    (λ i l. ap (is_new next limit (q + i)) (start (q + i))))
    (count_below-same (λ i. is_old next (q + i) (held mid (q + i))) (λ i. is_old next (q + i) (held r.cells (q + i))) (length bytes) (λ i l. ap (is_old next (q + i)) (start (q + i))))
    (count_below-same (λ i. is_differing next rbuf (q + i) (held mid (q + i)) (slice_index bytes i))
    (λ i. is_differing next rbuf (q + i) (held r.cells (q + i)) (slice_index bytes i)) (length bytes)
    (λ i l. ap (λ c. is_differing next rbuf (q + i) c (slice_index bytes i)) (start (q + i))))
    (count_below-same (λ i. is_beyond next limit (q + i) (held mid (q + i))) (λ i. is_beyond next limit (q + i) (held r.cells (q + i))) (length bytes)
    (λ i l. ap (is_beyond next limit (q + i)) (start (q + i))))

-- empty cells at the end hold what no cell holds
pub resized : (old mid : List (Option ℕ)) (end : ℕ) → length mid ≡ end → length old ≤ end
    → ((k : ℕ) (d : Option ℕ) → k < end → k < length old → slice_index_or mid k d ≡ slice_index_or old k d)
    → ((k : ℕ) (d : Option ℕ) → length old ≤ k → k < end → slice_index_or mid k d ≡ None)
    → (p : ℕ) → held mid p ≡ held old p
resized old mid end len l same none p = ⊎_elim
    (λ (a : p < length old). same p None (omega arith) a)
    (λ (a : length old ≤ p). ⊎_elim
    (λ (b : p < end). none p None a b ∙ sym (held_past old p a))
    (λ (b : end ≤ p). held_past mid p (omega arith) ∙ sym (held_past old p a))
    (cases_lt p end))
    (cases_lt p (length old))

pub plain_accept : (r : Receiver) (d : ℤ) (rbuf : ℕ) (bytes : List ℕ) (policy : Policy) (position below cut : ℕ) (mid new : List (Option ℕ))
    → position ≡ from_zero (pos (next_of r.cells) +ℤ d) → below ≡ below_zero (pos (next_of r.cells) +ℤ d) → cut ≡ min below (length bytes)
    → length new ≡ length mid → length mid ≡ max (length r.cells) (position + length (take (length bytes - cut) (drop cut bytes))) → ((p : ℕ) → held mid p ≡ held r.cells p)
    → ((p : ℕ) → held new p ≡ held_after (next_of r.cells) (limit_at r rbuf) policy position (take (length bytes - cut) (drop cut bytes)) p (held mid p))
    → record { cells = new; fin = r.fin; offer = r.offer } ≡ accept r (pos (next_of r.cells) +ℤ d) bytes policy rbuf
unfolding accept
plain_accept r d rbuf bytes policy position below cut mid new at under e same len start after =
    let rest = take (length bytes - cut) (drop cut bytes) in
    ap (λ (cells : List (Option ℕ)). record { cells = cells; fin = r.fin; offer = r.offer }) (plain_cells r position rbuf rest policy mid new same len start after)
    ∙ ap₂ (λ x y. accept_at r x y policy rbuf) at (cut_bytes below cut bytes e ∙ ap (λ k. drop k bytes) under)

pub plain_judged : (r : Receiver) (d : ℤ) (rbuf : ℕ) (bytes : List ℕ) (position below cut : ℕ) (mid : List (Option ℕ)) (before : Before) (placed : Placed)
    → position ≡ from_zero (pos (next_of r.cells) +ℤ d) → below ≡ below_zero (pos (next_of r.cells) +ℤ d) → cut ≡ min below (length bytes)
    → before ≡ record { next = next_of r.cells; limit = limit_at r rbuf; rbuf = rbuf } → ((p : ℕ) → held mid p ≡ held r.cells p)
    → placed ≡ judged_below before position (take (length bytes - cut) (drop cut bytes)) mid (length (take (length bytes - cut) (drop cut bytes)))
    → record { new = placed.new; old = cut + placed.old; differ = placed.differ; over = placed.over } ≡ counts r (pos (next_of r.cells) +ℤ d) bytes rbuf
unfolding counts
plain_judged r d rbuf bytes position below cut mid before placed at under e told start judged =
    let rest = take (length bytes - cut) (drop cut bytes) in
    let all : placed ≡ counts_at r (from_zero (pos (next_of r.cells) +ℤ d)) (drop (below_zero (pos (next_of r.cells) +ℤ d)) bytes) rbuf
    = judged ∙ plain_counts r position rbuf rest mid before told start ∙ ap₂ (λ x y. counts_at r x y rbuf) at (cut_bytes below cut bytes e ∙ ap (λ k. drop k bytes) under) in
    let made : ℕ → Placed → Placed = λ k c. record { new = c.new; old = k + c.old; differ = c.differ; over = c.over } in
    ap₂ made (e ∙ ap (λ k. min k (length bytes)) under) all
