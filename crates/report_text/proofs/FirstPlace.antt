-- The first place of a byte, as a search tells it and as a position.
use Rattle.std.proofs.Common.{◌≡◌, ℕ, ◌<◌, Bool, true, false, List, length, None, Some, refl, arith}
use Rattle.std.specs.Prelude.{cond, nat_lt, Option}
use Rattle.std.specs.List.{position}
use Rattle.std.proofs.lemmas.Bool.Decides.{nat_tests}
use Rattle.std.proofs.lemmas.List.Sums.{position_or_len_is}
use Rattle.memchr.specs.Find.{IsFirstByte}

past : (n len : ℕ) → n ≡ len → None ≡ cond (nat_lt n len) (Some n) None
past n len is = grind (arith, nat_tests)

there : (n len k : ℕ) → n ≡ k → k < len → Some k ≡ cond (nat_lt n len) (Some n) None
there n len k is low = grind (arith, nat_tests)

is_false : (b : Bool) → (b ≡ true → ⊥) → b ≡ false
is_false true never = absurd (never refl)
is_false false never = refl

pub first_place : (test : ℕ → Bool) (hay : List ℕ) (r : Option ℕ) → IsFirstByte test hay r → r ≡ position test hay
first_place test hay None none =
    past _ _ (position_or_len_is test hay (length hay) 0 (omega arith) (λ k low. is_false _ (none k (omega arith) low)) (λ low. absurd (omega arith)))
first_place test hay (Some k) found =
    there _ _ k (position_or_len_is test hay k 0 (omega (arith, found.0.high)) (λ j low. is_false _ (found.0.before j (omega arith) low)) (λ low. found.1)) found.0.high
