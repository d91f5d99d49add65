-- What is written is read: words, numbers and bytes.
use Rattle.std.proofs.Common.{◌≡◌, ℕ, ◌+◌, ◌*◌, ◌%◌, ◌^◌, ◌<◌, ◌≤◌, Bool, true, false, not, ◌&&◌, List, [], ◌∷◌, ◌++◌, drop, refl, ap, ◌∙◌, arith}
use Rattle.std.specs.Char.{digit_value}
use Rattle.std.specs.Fmt.{decimal, digits}
use Rattle.std.specs.List.{list_all}
use Rattle.std.specs.Str.Parse.{AllDigits, digits_value_after}
use Rattle.std.proofs.lemmas.Fmt.{decimal_is_IsNumeral, digits_is_IsNumeral}
use Rattle.std.proofs.lemmas.Bool.Decides.{nat_tests}
use Rattle.report_text.specs.ReadWords.{is_mark, first_word, after_word, number_from, number, decimal_of}

-- no mark among the bytes
abbrev pub plain : List ℕ → Bool
plain w = list_all (λ b. not (is_mark b)) w

-- a mark comes first
abbrev pub marked : List ℕ → Bool
marked [] = false
marked (m ∷ t) = is_mark m

pub and_parts : (a b : Bool) → (a && b) ≡ true → (a ≡ true) × (b ≡ true)
and_parts true true h = (refl, refl)
and_parts true false h = cc
and_parts false b h = cc

pub not_true : (a : Bool) → not a ≡ true → a ≡ false
not_true true h = cc
not_true false h = refl

pub plain-head : (b : ℕ) (w : List ℕ) → plain (b ∷ w) ≡ true → (is_mark b ≡ false) × (plain w ≡ true)
plain-head b w h = let parts = and_parts (not (is_mark b)) (plain w) h in (not_true (is_mark b) parts.0, parts.1)

pub after-word : (w t : List ℕ) → plain w ≡ true → marked t ≡ true → after_word (w ++ t) ≡ drop 1 t
unfolding after_word
after-word [] [] p m = cc
after-word [] (b ∷ t) p m = rw m refl
after-word (b ∷ w) t p m = let h = plain-head b w p in let here : is_mark b ≡ false = h.0 in rw here (after-word w t h.1 m)

pub first-word : (w t : List ℕ) → plain w ≡ true → marked t ≡ true → first_word (w ++ t) ≡ w
unfolding first_word
first-word [] [] p m = cc
first-word [] (b ∷ t) p m = rw m refl
first-word (b ∷ w) t p m =
    let h = plain-head b w p in let here : is_mark b ≡ false = h.0 in rw here (ap (λ x. b ∷ x) (first-word w t h.1 m))

digit-plain : (c : ℕ) → digit_value c < 16 → is_mark c ≡ false
digit-plain c h = grind (arith, nat_tests)

grows-once : (n radix d : ℕ) → 1 ≤ radix → n ≤ n * radix + d
grows-once n radix d low = grind arith

value-grows : (radix n : ℕ) (ds : List ℕ) → 1 ≤ radix → n ≤ digits_value_after radix n ds
value-grows radix n [] low = omega arith
value-grows radix n (c ∷ ds) low =
    let once = grows-once n radix (digit_value c) low in
    let more = value-grows radix (n * radix + digit_value c) ds low in
    omega (arith, once, more)

no-wrap : (a d : ℕ) → a + d < 2 ^ 64 → (a % 2 ^ 64 + d) % 2 ^ 64 ≡ a + d
no-wrap a d h = omega arith

pub number-word : (radix n : ℕ) (ds t : List ℕ) → 1 ≤ radix → radix ≤ 16 → AllDigits radix ds → digits_value_after radix n ds < 2 ^ 64 → marked t ≡ true
    → number_from radix n (ds ++ t) ≡ digits_value_after radix n ds
unfolding number_from
number-word radix n [] [] low high all fits m = cc
number-word radix n [] (b ∷ t) low high all fits m = rw m refl
number-word radix n (c ∷ ds) t low high all fits m =
    let here = digit-plain c (omega (arith, all.0)) in
    let grown = value-grows radix (n * radix + digit_value c) ds low in
    let same = no-wrap (n * radix) (digit_value c) (omega (arith, grown, fits)) in
    rw (here, same) (number-word radix (n * radix + digit_value c) ds t low high all.1 fits m)

pub plain-digits : (radix : ℕ) (ds : List ℕ) → radix ≤ 16 → AllDigits radix ds → plain ds ≡ true
plain-digits radix [] high all = refl
plain-digits radix (c ∷ ds) high all =
    let here = digit-plain c (omega (arith, all.0)) in rw here (plain-digits radix ds high all.1)

pub plain-decimal : (n : ℕ) → n < 2 ^ 64 → plain (decimal n) ≡ true
plain-decimal n h = plain-digits 10 (decimal n) (omega arith) (decimal_is_IsNumeral n h).0.1

pub decimal_of-decimal : (n : ℕ) (t : List ℕ) → n < 2 ^ 64 → marked t ≡ true → decimal_of (decimal n ++ t) ≡ n
decimal_of-decimal n t h m =
    let is = decimal_is_IsNumeral n h in
    let value : digits_value_after 10 0 (decimal n) ≡ n = is.1 in
    number-word 10 0 (decimal n) t (omega arith) (omega arith) is.0.1 (omega (arith, value)) m ∙ value

pub plain-hex : (n : ℕ) → n < 2 ^ 16 → plain (digits 16 false n) ≡ true
plain-hex n h = plain-digits 16 (digits 16 false n) (omega arith) (digits_is_IsNumeral 16 false (omega arith) (omega arith) n (omega arith)).0.1

pub number-hex : (n : ℕ) (t : List ℕ) → n < 2 ^ 16 → marked t ≡ true → number 16 (digits 16 false n ++ t) ≡ n
number-hex n t h m =
    let is = digits_is_IsNumeral 16 false (omega arith) (omega arith) n (omega arith) in
    let value : digits_value_after 16 0 (digits 16 false n) ≡ n = is.1 in
    number-word 16 0 (digits 16 false n) t (omega arith) (omega arith) is.0.1 (omega (arith, value)) m ∙ value
