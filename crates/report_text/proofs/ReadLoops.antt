-- One turn of each loop that reads a word.
use Rattle.std.proofs.Common.{◌≡◌, ℕ, zero, suc, ◌+◌, ◌-◌, ◌*◌, ◌%◌, ◌^◌, ◌<◌, true, false, List, [], ◌∷◌, ◌++◌, length, take, drop, get_or, refl, ap, sym, ◌∙◌, arith, append_assoc, add-one}
use Rattle.std.proofs.lemmas.List.{drop_more, take_more}
use Rattle.std.specs.Prelude.{◌==◌}
use Rattle.std.specs.Char.{digit_value}
use Rattle.std.proofs.lemmas.Bool.Decides.{nat_tests}
use Rattle.report_text.specs.ReadWords.{is_mark, first_word, after_word, skip, number_from, decimal_of, bytes_of, pieces_of, joined}

pub first_word-at_mark : (t : List ℕ) (i : ℕ) → i < length t → is_mark (get_or t i 0) ≡ true → first_word (drop i t) ≡ []
unfolding first_word
first_word-at_mark t i within mark = ap first_word (drop_more t i 0 within) ∙ rw mark refl

pub first_word-plain : (t : List ℕ) (i : ℕ) → i < length t → is_mark (get_or t i 0) ≡ false
    → first_word (drop i t) ≡ get_or t i 0 ∷ first_word (drop (i + 1) t)
unfolding first_word
first_word-plain t i within plain = ap first_word (drop_more t i 0 within) ∙ rw plain refl

pub after_word-at_mark : (t : List ℕ) (i : ℕ) → i < length t → is_mark (get_or t i 0) ≡ true → after_word (drop i t) ≡ drop (i + 1) t
unfolding after_word
after_word-at_mark t i within mark = ap after_word (drop_more t i 0 within) ∙ rw mark refl

pub after_word-plain : (t : List ℕ) (i : ℕ) → i < length t → is_mark (get_or t i 0) ≡ false → after_word (drop i t) ≡ after_word (drop (i + 1) t)
unfolding after_word
after_word-plain t i within plain = ap after_word (drop_more t i 0 within) ∙ rw plain refl

pub number-at_mark : (radix n : ℕ) (t : List ℕ) (i : ℕ) → i < length t → is_mark (get_or t i 0) ≡ true → number_from radix n (drop i t) ≡ n
unfolding number_from
number-at_mark radix n t i within mark = ap (number_from radix n) (drop_more t i 0 within) ∙ rw mark refl

pub number-plain : (radix n : ℕ) (t : List ℕ) (i : ℕ) → i < length t → is_mark (get_or t i 0) ≡ false
    → number_from radix n (drop i t) ≡ number_from radix ((n * radix % 2 ^ 64 + digit_value (get_or t i 0)) % 2 ^ 64) (drop (i + 1) t)
unfolding number_from
number-plain radix n t i within plain = ap (number_from radix n) (drop_more t i 0 within) ∙ rw plain refl

pub first_word-more : (t : List ℕ) (i : ℕ) → i < length t → is_mark (get_or t i 0) ≡ false → first_word t ≡ take i t ++ first_word (drop i t)
    → first_word t ≡ take (i + 1) t ++ first_word (drop (i + 1) t)
first_word-more t i within plain so =
    so ∙ ap (λ x. take i t ++ x) (first_word-plain t i within plain)
    ∙ sym (append_assoc (take i t) (get_or t i 0 ∷ []) (first_word (drop (i + 1) t)))
    ∙ ap (λ x. x ++ first_word (drop (i + 1) t)) (sym (take_more t i 0 within))

pub pieces_of-none : (most : ℕ) (t : List ℕ) → length t ≡ 0 → pieces_of most t ≡ []
unfolding pieces_of
pieces_of-none zero t none = refl
pieces_of-none (suc most) [] none = refl
pieces_of-none (suc most) (b ∷ t) none = absurd (omega arith)

pub pieces_of-suc : (most : ℕ) (t : List ℕ) → 0 < length t → pieces_of (suc most) t ≡ (decimal_of t, bytes_of (skip 1 t)) ∷ pieces_of most (skip 2 t)
unfolding pieces_of
pieces_of-suc most [] some = absurd (omega arith)
pieces_of-suc most (b ∷ t) some = refl

pub pieces_of-more : (most i : ℕ) (t : List ℕ) → i < most → 0 < length t
    → pieces_of (most - i) t ≡ (decimal_of t, bytes_of (skip 1 t)) ∷ pieces_of (most - (i + 1)) (skip 2 t)
pieces_of-more most i t within some =
    let one : most - i ≡ suc (most - (i + 1)) = omega arith in
    ap (λ n. pieces_of n t) one ∙ pieces_of-suc (most - (i + 1)) t some

pub first_word-none : first_word [] ≡ []
unfolding first_word
first_word-none = refl

pub after_word-none : after_word [] ≡ []
unfolding after_word
after_word-none = refl

pub number-none : (radix n : ℕ) → number_from radix n [] ≡ n
unfolding number_from
number-none radix n = refl

pub skip-none : (t : List ℕ) → t ≡ skip 0 t
unfolding skip
skip-none t = refl

pub skip-more : (n : ℕ) (t : List ℕ) → after_word (skip n t) ≡ skip (n + 1) t
unfolding skip
skip-more n t = rw add-one refl

pub none-left : (t : List ℕ) → (length t == 0) ≡ true → length t ≡ 0
none-left t h = grind (arith, nat_tests)

pub some-left : (t : List ℕ) → (length t == 0) ≡ false → 0 < length t
some-left t h = grind (arith, nat_tests)

pub pieces_of-zero : (t : List ℕ) → pieces_of 0 t ≡ []
unfolding pieces_of
pieces_of-zero t = refl

pub joined-none : (n : ℕ) → joined n [] ≡ n
unfolding joined
joined-none n = refl

pub joined-on : (n group : ℕ) (groups : List ℕ) → joined n (group ∷ groups) ≡ joined (n % 2 ^ 112 * 2 ^ 16 + group) groups
unfolding joined
joined-on n group groups = refl

pub joined-more : (n : ℕ) (groups : List ℕ) (i : ℕ) → i < length groups
    → joined n (drop i groups) ≡ joined (n % 2 ^ 112 * 2 ^ 16 + get_or groups i 0) (drop (i + 1) groups)
joined-more n groups i within = ap (joined n) (drop_more groups i 0 within) ∙ joined-on n (get_or groups i 0) (drop (i + 1) groups)
