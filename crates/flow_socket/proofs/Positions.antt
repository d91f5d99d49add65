-- The position of a sequence number is the one whole number near next that is congruent to it.
use Rattle.std.proofs.Common.{◌≡◌, ℕ, ◌+◌, ◌-◌, ◌*◌, ◌/◌, ◌%◌, ◌^◌, ◌<◌, ℤ, pos, ◌+ℤ◌, ◌-ℤ◌, ◌*ℤ◌, ◌≤ℤ◌, ◌<ℤ◌, true, false, nat_lt, arith, ap, ◌∙◌, if◌then◌else◌}
use Rattle.std.proofs.lemmas.Int.{ints}
use Rattle.std.proofs.Math.Nat.{div-add-mod}
use Rattle.reassembly.specs.Position.{IsPosition, signed_difference, position_of}

mod_small : (n : ℕ) → n % 2 ^ 32 < 2 ^ 32
mod_small n = omega arith

near_low : (next w : ℕ) → w < 2 ^ 32 → (pos next -ℤ pos (2 ^ 31)) ≤ℤ (pos next +ℤ signed_difference w)
near_low next w l = grind (arith, ints)

near_high : (next w : ℕ) → w < 2 ^ 32 → (pos next +ℤ signed_difference w) <ℤ (pos next +ℤ pos (2 ^ 31))
near_high next w l = grind (arith, ints)

-- the whole numbers of which k and m are the quotients, in the two halves of w
congruent_low : (next irs seq k m r w : ℕ) → 2 ^ 32 * k + r ≡ next → 2 ^ 32 * m + w + (irs + 1 + r) ≡ seq + 2 ^ 33 →
    pos next +ℤ pos w ≡ ((pos seq -ℤ pos irs) -ℤ pos 1) +ℤ (((pos k -ℤ pos m) +ℤ pos 2) *ℤ pos (2 ^ 32))
congruent_low next irs seq k m r w is_next is_w = omega (arith, ints)

congruent_high : (next irs seq k m r w : ℕ) → 2 ^ 32 * k + r ≡ next → 2 ^ 32 * m + w + (irs + 1 + r) ≡ seq + 2 ^ 33 →
    pos next +ℤ (pos w -ℤ pos (2 ^ 32)) ≡ ((pos seq -ℤ pos irs) -ℤ pos 1) +ℤ (((pos k -ℤ pos m) +ℤ pos 1) *ℤ pos (2 ^ 32))
congruent_high next irs seq k m r w is_next is_w = omega (arith, ints)

congruent : (next irs seq k m r w : ℕ) → 2 ^ 32 * k + r ≡ next → 2 ^ 32 * m + w + (irs + 1 + r) ≡ seq + 2 ^ 33 →
    (turns : ℤ) × (pos next +ℤ signed_difference w ≡ ((pos seq -ℤ pos irs) -ℤ pos 1) +ℤ (turns *ℤ pos (2 ^ 32)))
congruent next irs seq k m r w is_next is_w =
    elim (nat_lt w (2 ^ 31)) as (λ b. (turns : ℤ) × (pos next +ℤ (if b then pos w else pos w -ℤ pos (2 ^ 32)) ≡ ((pos seq -ℤ pos irs) -ℤ pos 1) +ℤ (turns *ℤ pos (2 ^ 32)))) [
      | true ↦ ((pos k -ℤ pos m) +ℤ pos 2, congruent_low next irs seq k m r w is_next is_w)
      | false ↦ ((pos k -ℤ pos m) +ℤ pos 1, congruent_high next irs seq k m r w is_next is_w)
    ]

-- the difference of the numbers, and what it is as a quotient and a rest
above : ℕ → ℕ → ℕ → ℕ
above next irs seq = seq + 2 ^ 33 - (irs + 1 + next % 2 ^ 32)

above_is : (next irs seq : ℕ) → irs < 2 ^ 32 → next % 2 ^ 32 < 2 ^ 32 → above next irs seq + (irs + 1 + next % 2 ^ 32) ≡ seq + 2 ^ 33
unfolding above
above_is next irs seq small_irs small = omega arith

pub position : (next irs seq : ℕ) → irs < 2 ^ 32 → seq < 2 ^ 32 → IsPosition next irs seq (position_of next irs seq)
unfolding above
position next irs seq small_irs small_seq =
    let w : ℕ = above next irs seq % 2 ^ 32 in
    let rest : next % 2 ^ 32 < 2 ^ 32 = mod_small next in
    let parts : 2 ^ 32 * (above next irs seq / 2 ^ 32) + w ≡ above next irs seq = div-add-mod (above next irs seq) (2 ^ 32) in
    let sum : 2 ^ 32 * (above next irs seq / 2 ^ 32) + w + (irs + 1 + next % 2 ^ 32) ≡ seq + 2 ^ 33 =
    ap (λ n. n + (irs + 1 + next % 2 ^ 32)) parts ∙ above_is next irs seq small_irs rest in
    record {
      from = near_low next w (mod_small (above next irs seq));
      below = near_high next w (mod_small (above next irs seq));
      congruent = congruent next irs seq (next / 2 ^ 32) (above next irs seq / 2 ^ 32) (next % 2 ^ 32) w (div-add-mod next (2 ^ 32)) sum;
    }

-- two of them would lie a whole turn apart
pub only_position : (next irs seq : ℕ) (p q : ℤ) → IsPosition next irs seq p → IsPosition next irs seq q → p ≡ q
only_position next irs seq p q is_p is_q =
    same (pos next) ((pos seq -ℤ pos irs) -ℤ pos 1) is_p.congruent.0 is_q.congruent.0 p q is_p.from is_p.below is_q.from is_q.below is_p.congruent.1 is_q.congruent.1
  where
    same : (n c s t p q : ℤ) → (n -ℤ pos (2 ^ 31)) ≤ℤ p → p <ℤ (n +ℤ pos (2 ^ 31)) → (n -ℤ pos (2 ^ 31)) ≤ℤ q → q <ℤ (n +ℤ pos (2 ^ 31)) →
        p ≡ c +ℤ (s *ℤ pos (2 ^ 32)) → q ≡ c +ℤ (t *ℤ pos (2 ^ 32)) → p ≡ q
    same n c s t p q p_from p_below q_from q_below p_is q_is = omega (arith, ints)
