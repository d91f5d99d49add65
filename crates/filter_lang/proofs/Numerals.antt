-- The digits that a text begins with are a numeral, which the standard library reads.
use Rattle.std.proofs.Common.{◌≡◌, ◌≢◌, ℕ, zero, suc, ◌^◌, ◌<◌, ◌≤◌, Bool, true, false, ◌&&◌, List, [], ◌∷◌, take, drop, get_or, Result, Ok, Err, MatchOption, arith, refl, inl, inr, subst, sym}
use Rattle.std.specs.Prelude.{◌==◌}
use Rattle.std.specs.Char.{digit_value, is_ascii_digit, is_ascii_hexdigit}
use Rattle.std.specs.List.{prefix_len}
use Rattle.std.specs.Result.{OkIff, result_ok}
use Rattle.std.specs.Str.Parse.{AllDigits, IsNumeral, digits_value, ParsesUnsigned}
use Rattle.filter_lang.specs.Tokens.{begins_hex}
use Rattle.std.proofs.lemmas.Bool.{cases_lt}
use Rattle.std.proofs.lemmas.Bool.Decides.{nat_tests}
use Rattle.std.proofs.lemmas.List.Folds.{length-prefix_len}
use Rattle.std.proofs.lemmas.Str.Parse.{without_leading_plus_none}

-- bytes that pass a test of digits are digits
digits-before : (radix : ℕ) (p : ℕ → Bool) → ((b : ℕ) → p b ≡ true → digit_value b < radix) → (bs : List ℕ) → AllDigits radix (take (prefix_len p bs) bs)
digits-before radix p digit [] = tt
digits-before radix p digit (b ∷ bs) = by-test (digits-before radix p digit bs) (p b) refl
  where
    by-test : AllDigits radix (take (prefix_len p bs) bs) → (passes : Bool) → p b ≡ passes → AllDigits radix (take (prefix_len p (b ∷ bs)) (b ∷ bs))
    by-test rest true is =
        let count : prefix_len p (b ∷ bs) ≡ suc (prefix_len p bs) = rw is (omega arith) in
        subst (λ n. AllDigits radix (take n (b ∷ bs))) (sym count) (digit b is, rest)
    by-test rest false is = rw is tt

and_parts : (a b : Bool) → (a && b) ≡ true → (a ≡ true) × (b ≡ true)
and_parts true true h = (refl, refl)
and_parts true false h = cc
and_parts false b h = cc

decimal-digit : (b : ℕ) → is_ascii_digit b ≡ true → digit_value b < 10
decimal-digit b h = grind (arith, nat_tests)

hex-digit : (b : ℕ) → is_ascii_hexdigit b ≡ true → digit_value b < 16
hex-digit b h = grind (arith, nat_tests)

numeral-before : (radix : ℕ) (p : ℕ → Bool) → ((b : ℕ) → p b ≡ true → digit_value b < radix) → (bs : List ℕ) → 0 < prefix_len p bs → IsNumeral radix (take (prefix_len p bs) bs)
numeral-before radix p digit bs some = (omega (arith, length-prefix_len p bs), digits-before radix p digit bs)

pub decimal_numeral : (bs : List ℕ) → 0 < prefix_len is_ascii_digit bs → IsNumeral 10 (take (prefix_len is_ascii_digit bs) bs)
decimal_numeral = numeral-before 10 is_ascii_digit decimal-digit

hex-after : (bs : List ℕ) → begins_hex bs ≡ true → 0 < prefix_len is_ascii_hexdigit (drop 2 bs)
hex-after [] h = cc
hex-after (a ∷ []) h = absurd (grind (arith, nat_tests))
hex-after (a ∷ b ∷ []) h = absurd (grind (arith, nat_tests))
hex-after (a ∷ b ∷ d ∷ bs) h =
    let first : is_ascii_hexdigit d ≡ true = (and_parts ((a == 48) && (b == 120)) (is_ascii_hexdigit d) h).1 in
    rw first (omega arith)

pub hex_numeral : (bs : List ℕ) → begins_hex bs ≡ true → IsNumeral 16 (take (prefix_len is_ascii_hexdigit (drop 2 bs)) (drop 2 bs))
hex_numeral bs h = numeral-before 16 is_ascii_hexdigit hex-digit (drop 2 bs) (hex-after bs h)

digit-small : (b : ℕ) → digit_value b < 36 → b < 128
digit-small b h = grind (arith, nat_tests)

-- digits are ASCII
pub ascii : (radix : ℕ) (ds : List ℕ) → radix ≤ 36 → AllDigits radix ds → (i : ℕ) → get_or ds i 0 < 128
ascii radix [] most h zero = omega arith
ascii radix [] most h (suc i) = omega arith
ascii radix (d ∷ ds) most h zero = digit-small d (omega (arith, h.0))
ascii radix (d ∷ ds) most h (suc i) = ascii radix ds most h.1 i

no-plus : (radix : ℕ) (ds : List ℕ) → radix ≤ 36 → IsNumeral radix ds → get_or ds 0 0 ≢ 43
no-plus radix [] most h is = absurd (omega (arith, h.0))
no-plus radix (d ∷ ds) most h is = absurd (omega (arith, subst (λ b. digit_value b < radix) is h.1.0))

from-cases : {E : Type 0} → (v : ℕ) (some : Type 0) (r : Result ℕ E) → some → OkIff r (some × (v < 2 ^ 64)) v → MatchOption (result_ok r) (2 ^ 64 ≤ v) (λ n. n ≡ v)
from-cases v some (Ok n) h is = is.1
from-cases v some (Err e) h is = elim (cases_lt v (2 ^ 64)) [ inl small ↦ absurd (is (h, small)) | inr large ↦ large ]

-- what is parsed is the digits' number, where it fits
pub parsed : {E : Type 0} → (radix : ℕ) (ds : List ℕ) (r : Result ℕ E) → radix ≤ 36 → IsNumeral radix ds → ParsesUnsigned 64 radix ds r
    → MatchOption (result_ok r) (2 ^ 64 ≤ digits_value radix ds) (λ n. n ≡ digits_value radix ds)
parsed radix ds r most h is =
    from-cases (digits_value radix ds) (IsNumeral radix ds) r h
    (subst (λ bs. OkIff r (IsNumeral radix bs × (digits_value radix bs < 2 ^ 64)) (digits_value radix bs)) (without_leading_plus_none ds (no-plus radix ds most h)) is)
