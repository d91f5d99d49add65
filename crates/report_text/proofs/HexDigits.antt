-- The hexadecimal digits of a group of 16 bits: those of its high byte, and two more.
use Rattle.std.proofs.Common.{◌≡◌, ◌∙◌, ℕ, suc, ◌/◌, ◌%◌, ◌<◌, ◌≤◌, Bool, true, false, cond, List, [], ◌∷◌, ◌++◌, ap, sym, arith, ⊎_elim}
use Rattle.std.specs.Prelude.{◌==◌}
use Rattle.std.specs.Fmt.{digits, digits_onto, digit_glyph}
use Rattle.std.proofs.lemmas.Fmt.{hex_one_digit, hex_two_digits}
use Rattle.std.proofs.lemmas.Bool.{cases_lt}
use Rattle.std.proofs.lemmas.Bool.Decides.{nat_tests}

with-test : (k n : ℕ) (acc : List ℕ) (last : Bool) → (n / 16 == 0) ≡ last → digits_onto (suc k) 16 false n acc
    ≡ cond last (digit_glyph false (n % 16) ∷ acc) (digits_onto k 16 false (n / 16) (digit_glyph false (n % 16) ∷ acc))
with-test k n acc last is =
    ap (λ (b : Bool). cond b (digit_glyph false (n % 16) ∷ acc) (digits_onto k 16 false (n / 16) (digit_glyph false (n % 16) ∷ acc))) is

more : (n : ℕ) → 16 ≤ n → (n / 16 == 0) ≡ false
more n h = grind (arith, nat_tests)

last : (n : ℕ) → n < 16 → (n / 16 == 0) ≡ true
last n h = grind (arith, nat_tests)

-- one or two digits before others
short : (k n : ℕ) (acc : List ℕ) → n < 256 → digits_onto (suc (suc k)) 16 false n acc ≡ digits 16 false n ++ acc
short k n acc small = ⊎_elim
    (λ one. let same : n % 16 ≡ n = omega arith in
    with-test (suc k) n acc true (last n one)
    ∙ (ap (λ d. digit_glyph false d ∷ acc) same ∙ sym (ap (λ ds. ds ++ acc) (hex_one_digit false n one))))
    (λ two. let same : n / 16 % 16 ≡ n / 16 = omega arith in
    with-test (suc k) n acc false (more n two)
    ∙ (with-test k (n / 16) (digit_glyph false (n % 16) ∷ acc) true (last (n / 16) (omega arith))
    ∙ (ap (λ d. digit_glyph false d ∷ digit_glyph false (n % 16) ∷ acc) same
    ∙ sym (ap (λ ds. ds ++ acc) (hex_two_digits false n two small)))))
    (cases_lt n 16)

pub group_digits : (n : ℕ) → 256 ≤ n → n < 65536
    → digits 16 false n ≡ digits 16 false (n / 256) ++ (digit_glyph false (n / 16 % 16) ∷ digit_glyph false (n % 16) ∷ [])
unfolding digits
group_digits n low high =
    let same : n / 16 / 16 ≡ n / 256 = omega arith in
    let two : List ℕ = digit_glyph false (n / 16 % 16) ∷ digit_glyph false (n % 16) ∷ [] in
    with-test 63 n [] false (more n (omega arith))
    ∙ (with-test 62 (n / 16) (digit_glyph false (n % 16) ∷ []) false (more (n / 16) (omega arith))
    ∙ (ap (λ (m : ℕ). digits_onto 62 16 false m two) same ∙ short 60 (n / 256) two (omega arith)))
