-- What the standard library's reader of numbers tells of digits.
use Rattle.std.proofs.Common.{◌≡◌, ℕ, zero, suc, ◌^◌, ◌<◌, ◌≤◌, Bool, true, false, ◌&&◌, List, [], ◌∷◌, length, get_or, Result, Ok, Err, MatchOption, arith, rules, refl, inl, inr}
use Rattle.std.specs.Prelude.{nat_lt}
use Rattle.std.specs.Char.{is_ascii_digit}
use Rattle.std.specs.List.{list_all}
use Rattle.std.specs.Result.{OkIff, result_ok}
use Rattle.std.specs.Str.Parse.{digits_value, ParsesUnsigned}
use Rattle.std.proofs.lemmas.Bool.{cases_lt}
use Rattle.std.proofs.lemmas.Bool.Decides.{nat_tests}
use Rattle.std.proofs.lemmas.Str.Parse.{IsNumeralModel, IsDigitsTest, numerals_by_value, parse_digits}
use Rattle.number_text.specs.Numbers.{are_digits}

pub and_parts : (a b : Bool) → (a && b) ≡ true → (a ≡ true) × (b ≡ true)
and_parts true true h = (refl, refl)
and_parts true false h = cc
and_parts false b h = cc

digit-small : (b : ℕ) → is_ascii_digit b ≡ true → b < 128
digit-small b h = grind (arith, nat_tests)

digits-small : (ds : List ℕ) → list_all is_ascii_digit ds ≡ true → (i : ℕ) → get_or ds i 0 < 128
digits-small [] h zero = omega arith
digits-small [] h (suc i) = omega arith
digits-small (d ∷ ds) h zero = digit-small d (and_parts (is_ascii_digit d) (list_all is_ascii_digit ds) h).0
digits-small (d ∷ ds) h (suc i) = digits-small ds (and_parts (is_ascii_digit d) (list_all is_ascii_digit ds) h).1 i

-- digits are ASCII
pub ascii : (ds : List ℕ) → are_digits ds ≡ true → (i : ℕ) → get_or ds i 0 < 128
ascii ds h = digits-small ds (and_parts (nat_lt 0 (length ds)) (list_all is_ascii_digit ds) h).1

some-first : (n : ℕ) → nat_lt 0 n ≡ true → 0 < n
some-first n h = grind (arith, nat_tests)

tells : IsDigitsTest (λ ds. list_all is_ascii_digit ds ≡ true)
tells = search rules

own : IsNumeralModel (λ ds. list_all is_ascii_digit ds ≡ true) (digits_value 10)
own = numerals_by_value _ tells

from-cases : {E : Type 0} → (v : ℕ) (some : Type 0) (r : Result ℕ E) → some → OkIff r (some × (v < 2 ^ 64)) v → MatchOption (result_ok r) (2 ^ 64 ≤ v) (λ n. n ≡ v)
from-cases v some (Ok n) h is = is.1
from-cases v some (Err e) h is = elim (cases_lt v (2 ^ 64)) [ inl small ↦ absurd (is (h, small)) | inr large ↦ large ]

-- what is parsed is the digits' number, where it fits
pub parsed : {E : Type 0} → (ds : List ℕ) (r : Result ℕ E) → are_digits ds ≡ true → ParsesUnsigned 64 10 ds r
    → MatchOption (result_ok r) (2 ^ 64 ≤ digits_value 10 ds) (λ n. n ≡ digits_value 10 ds)
parsed ds r h is =
    let parts = and_parts (nat_lt 0 (length ds)) (list_all is_ascii_digit ds) h in
    from-cases (digits_value 10 ds) (0 < length ds) r (some-first (length ds) parts.0) (parse_digits own 64 ds r is parts.1)
