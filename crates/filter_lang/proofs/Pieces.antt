-- The token that each printed piece is, whatever stands behind it.
use Rattle.std.proofs.Common.{◌≡◌, ℕ, zero, suc, ◌<◌, ◌≤◌, ◌^◌, ◌==◌, ◌⊎◌, Bool, true, false, eqb, eq-eqb, lt-ltb, nat_lt, ◌&&◌, List, [], ◌∷◌, ◌++◌, length, take, slice_index, slice_index_or, codes, if◌then◌else◌, inl, inr, refl, ap, ◌∙◌, add-zero, arith}
use Rattle.std.proofs.lemmas.Bool.Decides.{nat_tests}
use Rattle.std.proofs.lemmas.Fmt.{decimal_is_IsNumeral}
use Rattle.std.proofs.lemmas.List.Folds.{prefix_len-append}
use Rattle.std.proofs.Math.Seq.{take-append_seam}
use Rattle.std.specs.Char.{is_ascii_digit, is_ascii_hexdigit, is_ascii_lowercase, digit_value}
use Rattle.std.specs.Fmt.{decimal}
use Rattle.std.specs.List.{prefix_len}
use Rattle.std.specs.Str.Parse.{AllDigits, digits_value}
use Rattle.filter_lang.specs.declared.term.Atom.{Atom}
use Rattle.filter_lang.specs.declared.term.Atom.TheVariants.{Fact, Number}
use Rattle.filter_lang.specs.declared.term.Join.{Join}
use Rattle.filter_lang.specs.declared.term.Join.TheVariants.{Plus, Minus, Rem}
use Rattle.filter_lang.specs.declared.term.Op.{Op}
use Rattle.filter_lang.specs.declared.term.Op.TheVariants.{Eq, Ne, Lt, Le, Gt, Ge, Has}
use Rattle.filter_lang.specs.declared.token.Token.{Token}
use Rattle.filter_lang.specs.declared.token.Token.TheVariants.{Bang, Open, Close, Both, Either, Joins, Compares, NativeWord, FactName, Numeral}
use Rattle.filter_lang.specs.Printed.{atom_text, join_text, op_text}
use Rattle.filter_lang.specs.Shape.{AtomIsWithin}
use Rattle.filter_lang.specs.Tokens.{lexeme, is_blank, fact_names, word_token, name_at, numeral_token, quad_from, begins_hex, decimal_at, token_at}
use Rattle.filter_lang.proofs.Runs.{kinds, kinds-token}

-- behind a name or a number stands a blank, a `)` or nothing
abbrev pub IsStop : List ℕ → Type 0
IsStop [] = Unit {0}
IsStop (b ∷ bs) = (b ≡ 32) ⊎ (b ≡ 41)

no_letters : (rest : List ℕ) → IsStop rest → prefix_len is_ascii_lowercase rest ≡ 0
no_letters [] h = refl
no_letters (b ∷ bs) (inl e) = rw e refl
no_letters (b ∷ bs) (inr e) = rw e refl

no_digits : (rest : List ℕ) → IsStop rest → prefix_len is_ascii_digit rest ≡ 0
no_digits [] h = refl
no_digits (b ∷ bs) (inl e) = rw e refl
no_digits (b ∷ bs) (inr e) = rw e refl

no_dot : (rest : List ℕ) → IsStop rest → (slice_index rest 0 == 46) ≡ false
no_dot [] h = refl
no_dot (b ∷ bs) (inl e) = rw e refl
no_dot (b ∷ bs) (inr e) = rw e refl

no_x : (rest : List ℕ) → IsStop rest → (slice_index rest 0 == 120) ≡ false
no_x [] h = refl
no_x (b ∷ bs) (inl e) = rw e refl
no_x (b ∷ bs) (inr e) = rw e refl

run_len : (p : ℕ → Bool) (ws rest : List ℕ) → prefix_len p ws ≡ length ws → prefix_len p rest ≡ 0 → prefix_len p (ws ++ rest) ≡ length ws
run_len p ws rest whole stop =
    prefix_len-append p ws rest ∙ rw (whole, eq-eqb (length ws) (length ws) refl, stop) (add-zero (length ws))

-- a name
token_is_name : (bs : List ℕ) → is_ascii_digit (slice_index bs 0) ≡ false → is_ascii_lowercase (slice_index bs 0) ≡ true → token_at bs ≡ name_at bs
unfolding token_at
token_is_name bs digit lower = rw digit (rw lower refl)

letter_no_digit : (b : ℕ) → is_ascii_lowercase b ≡ true → is_ascii_digit b ≡ false
letter_no_digit b h = grind (arith, nat_tests)

letter_no_blank : (b : ℕ) → is_ascii_lowercase b ≡ true → is_blank b ≡ false
letter_no_blank b h = grind (arith, nat_tests)

pub name_read : (b : ℕ) (ws rest : List ℕ) → is_ascii_lowercase b ≡ true → prefix_len is_ascii_lowercase ws ≡ length ws → IsStop rest → kinds 0 (b ∷ (ws ++ rest)) ≡ word_token (b ∷ ws) ∷ kinds 0 rest
name_read b ws rest lower letters stop =
    let bs = b ∷ (ws ++ rest) in
    let n : prefix_len is_ascii_lowercase bs ≡ suc (length ws) = rw lower (omega (arith, run_len is_ascii_lowercase ws rest letters (no_letters rest stop))) in
    let made = λ (k : ℕ). lexeme (word_token (take k bs)) k in
    kinds-token b ws rest (word_token (b ∷ ws)) (letter_no_blank b lower)
    (token_is_name bs (letter_no_digit b lower) lower ∙ ap made n ∙ ap (λ w. lexeme (word_token (b ∷ w)) (suc (length ws))) (take-append_seam ws rest))

-- a number
token_is_decimal : (bs : List ℕ) → is_ascii_digit (slice_index bs 0) ≡ true → begins_hex bs ≡ false → token_at bs ≡ decimal_at bs
unfolding token_at
token_is_decimal bs digit plain = rw digit (rw plain refl)

digit_is : (c : ℕ) → digit_value c < 10 → is_ascii_digit c ≡ true
digit_is c h = grind (arith, nat_tests)

digit_no_blank : (b : ℕ) → is_ascii_digit b ≡ true → is_blank b ≡ false
digit_no_blank b h = grind (arith, nat_tests)

digit_no_x : (b : ℕ) → is_ascii_digit b ≡ true → (b == 120) ≡ false
digit_no_x b h = grind (arith, nat_tests)

digits_run : (ds : List ℕ) → AllDigits 10 ds → prefix_len is_ascii_digit ds ≡ length ds
digits_run [] h = refl
digits_run (d ∷ ds) h = rw (digit_is d h.0) (omega (arith, digits_run ds h.1))

and_false : (a c : Bool) → (a && false && c) ≡ false
and_false true c = refl
and_false false c = refl

no_hex : (b : ℕ) (ws rest : List ℕ) → AllDigits 10 ws → IsStop rest → begins_hex (b ∷ (ws ++ rest)) ≡ false
no_hex b [] rest h stop = rw (no_x rest stop) (and_false (b == 48) (is_ascii_hexdigit (slice_index (b ∷ rest) 2)))
no_hex b (w ∷ ws) rest h stop =
    rw (digit_no_x w (digit_is w h.0)) (and_false (b == 48) (is_ascii_hexdigit (slice_index (ws ++ rest) 0)))

get_or-behind : (ws rest : List ℕ) → slice_index (ws ++ rest) (length ws) ≡ slice_index rest 0
get_or-behind [] rest = refl
get_or-behind (w ∷ ws) rest = get_or-behind ws rest

decimal_is : (bs : List ℕ) (len : ℕ) (ds : List ℕ) (n : ℕ) → prefix_len is_ascii_digit bs ≡ len → (slice_index bs len == 46) ≡ false
    → take len bs ≡ ds → digits_value 10 ds ≡ n → nat_lt n (2 ^ 64) ≡ true → decimal_at bs ≡ lexeme (Numeral n) len
decimal_is bs len ds n e plain whole value small =
    let made = λ (k : ℕ). if slice_index bs k == 46 then quad_from 3 0 0 bs else lexeme (numeral_token (digits_value 10 (take k bs))) k in
    ap made e
    ∙ rw plain (ap (λ xs. lexeme (numeral_token (digits_value 10 xs)) len) whole ∙ ap (λ v. lexeme (numeral_token v) len) value ∙ rw small refl)

digits_read : (ds rest : List ℕ) (n : ℕ) → AllDigits 10 ds → 0 < length ds → digits_value 10 ds ≡ n → n < 2 ^ 64 → IsStop rest → kinds 0 (ds ++ rest) ≡ Numeral n ∷ kinds 0 rest
digits_read [] rest n all some value fits stop = absurd (omega arith)
digits_read (b ∷ ws) rest n all some value fits stop =
    let bs = b ∷ (ws ++ rest) in
    let digit = digit_is b all.0 in
    let len : prefix_len is_ascii_digit bs ≡ suc (length ws) = run_len is_ascii_digit (b ∷ ws) rest (digits_run (b ∷ ws) all) (no_digits rest stop) in
    let plain : (slice_index bs (suc (length ws)) == 46) ≡ false = ap (λ c. c == 46) (get_or-behind ws rest) ∙ no_dot rest stop in
    let whole : take (suc (length ws)) bs ≡ b ∷ ws = ap (λ w. b ∷ w) (take-append_seam ws rest) in
    let small : nat_lt n (2 ^ 64) ≡ true = lt-ltb n (2 ^ 64) fits in
    kinds-token b ws rest (Numeral n) (digit_no_blank b digit)
    (token_is_decimal bs digit (no_hex b ws rest all.1 stop) ∙ decimal_is bs (suc (length ws)) (b ∷ ws) n len plain whole value small)

pub decimal_read : (n : ℕ) (rest : List ℕ) → n < 2 ^ 64 → IsStop rest → kinds 0 (decimal n ++ rest) ≡ Numeral n ∷ kinds 0 rest
decimal_read n rest fits stop =
    let is = decimal_is_IsNumeral n fits in
    digits_read (decimal n) rest n is.0.1 is.0.0 is.1 fits stop

-- an atom
abbrev pub atom_token : Atom → Token
atom_token (Fact place) = FactName place
atom_token (Number n) = Numeral n

fact_read : (place : ℕ) (rest : List ℕ) → place ≤ 19 → IsStop rest → kinds 0 (slice_index_or fact_names place [] ++ rest) ≡ FactName place ∷ kinds 0 rest
fact_read zero rest h stop = name_read 100 (105 ∷ 114 ∷ []) rest refl refl stop
fact_read (suc zero) rest h stop = name_read 110 (116 ∷ 104 ∷ []) rest refl refl stop
fact_read (suc (suc zero)) rest h stop = name_read 115 (114 ∷ 99 ∷ []) rest refl refl stop
fact_read (suc (suc (suc zero))) rest h stop = name_read 100 (115 ∷ 116 ∷ []) rest refl refl stop
fact_read (suc (suc (suc (suc zero)))) rest h stop = name_read 115 (112 ∷ 111 ∷ 114 ∷ 116 ∷ []) rest refl refl stop
fact_read (suc (suc (suc (suc (suc zero))))) rest h stop = name_read 100 (112 ∷ 111 ∷ 114 ∷ 116 ∷ []) rest refl refl stop
fact_read (suc (suc (suc (suc (suc (suc zero)))))) rest h stop = name_read 115 (101 ∷ 113 ∷ []) rest refl refl stop
fact_read (suc (suc (suc (suc (suc (suc (suc zero))))))) rest h stop = name_read 97 (99 ∷ 107 ∷ []) rest refl refl stop
fact_read (suc (suc (suc (suc (suc (suc (suc (suc zero)))))))) rest h stop = name_read 102 (108 ∷ 97 ∷ 103 ∷ 115 ∷ []) rest refl refl stop
fact_read (suc (suc (suc (suc (suc (suc (suc (suc (suc zero))))))))) rest h stop = name_read 119 (105 ∷ 110 ∷ []) rest refl refl stop
fact_read (suc (suc (suc (suc (suc (suc (suc (suc (suc (suc zero)))))))))) rest h stop = name_read 108 (101 ∷ 110 ∷ []) rest refl refl stop
fact_read (suc (suc (suc (suc (suc (suc (suc (suc (suc (suc (suc zero))))))))))) rest h stop = name_read 116 (116 ∷ 108 ∷ []) rest refl refl stop
fact_read (suc (suc (suc (suc (suc (suc (suc (suc (suc (suc (suc (suc zero)))))))))))) rest h stop = name_read 111 (108 ∷ 100 ∷ []) rest refl refl stop
fact_read (suc (suc (suc (suc (suc (suc (suc (suc (suc (suc (suc (suc (suc zero))))))))))))) rest h stop = name_read 110 (101 ∷ 119 ∷ []) rest refl refl stop
fact_read (suc (suc (suc (suc (suc (suc (suc (suc (suc (suc (suc (suc (suc (suc zero)))))))))))))) rest h stop = name_read 102 (114 ∷ 101 ∷ 115 ∷ 104 ∷ []) rest refl refl stop
fact_read (suc (suc (suc (suc (suc (suc (suc (suc (suc (suc (suc (suc (suc (suc (suc zero))))))))))))))) rest h stop = name_read 114 (101 ∷ 120 ∷ 108 ∷ 101 ∷ 110 ∷ []) rest refl refl stop
fact_read (suc (suc (suc (suc (suc (suc (suc (suc (suc (suc (suc (suc (suc (suc (suc (suc zero)))))))))))))))) rest h stop = name_read 114 (101 ∷ 120 ∷ 100 ∷ 105 ∷ 102 ∷ 102 ∷ []) rest refl refl stop
fact_read (suc (suc (suc (suc (suc (suc (suc (suc (suc (suc (suc (suc (suc (suc (suc (suc (suc zero))))))))))))))))) rest h stop = name_read 102 (97 ∷ 117 ∷ 108 ∷ 116 ∷ []) rest refl refl stop
fact_read (suc (suc (suc (suc (suc (suc (suc (suc (suc (suc (suc (suc (suc (suc (suc (suc (suc (suc zero)))))))))))))))))) rest h stop = name_read 110 (101 ∷ 120 ∷ 116 ∷ []) rest refl refl stop
fact_read (suc (suc (suc (suc (suc (suc (suc (suc (suc (suc (suc (suc (suc (suc (suc (suc (suc (suc (suc zero))))))))))))))))))) rest h
    stop = name_read 99 (108 ∷ 97 ∷ 115 ∷ 115 ∷ []) rest refl refl stop
fact_read (suc (suc (suc (suc (suc (suc (suc (suc (suc (suc (suc (suc (suc (suc (suc (suc (suc (suc (suc (suc place)))))))))))))))))))) rest h stop = absurd (omega arith)

pub atom_read : (a : Atom) (rest : List ℕ) → AtomIsWithin a → IsStop rest → kinds 0 (atom_text a ++ rest) ≡ atom_token a ∷ kinds 0 rest
atom_read (Fact place) rest h stop = fact_read place rest h stop
atom_read (Number n) rest h stop = decimal_read n rest h stop

-- signs with blanks beside them
pub join_read : (j : Join) (rest : List ℕ) → kinds 0 (join_text j ++ rest) ≡ Joins j ∷ kinds 0 rest
unfolding token_at
join_read Plus rest = refl
join_read Minus rest = refl
join_read Rem rest = refl

pub op_read : (op : Op) (rest : List ℕ) → kinds 0 (op_text op ++ rest) ≡ Compares op ∷ kinds 0 rest
unfolding token_at
op_read Eq rest = refl
op_read Ne rest = refl
op_read Lt rest = refl
op_read Le rest = refl
op_read Gt rest = refl
op_read Ge rest = refl
op_read Has rest = refl

pub both_read : (rest : List ℕ) → kinds 0 (codes " && " ++ rest) ≡ Both ∷ kinds 0 rest
unfolding token_at
both_read rest = refl

pub either_read : (rest : List ℕ) → kinds 0 (codes " || " ++ rest) ≡ Either ∷ kinds 0 rest
unfolding token_at
either_read rest = refl

pub open_read : (rest : List ℕ) → kinds 0 (codes "(" ++ rest) ≡ Open ∷ kinds 0 rest
unfolding token_at
open_read rest = refl

pub close_read : (rest : List ℕ) → kinds 0 (codes ")" ++ rest) ≡ Close ∷ kinds 0 rest
unfolding token_at
close_read rest = refl

pub native_read : (rest : List ℕ) → kinds 0 (codes "native " ++ rest) ≡ NativeWord ∷ kinds 0 rest
unfolding token_at
native_read rest = refl

-- a `!` before anything but a `=`
bang_token : (b : ℕ) (rest : List ℕ) → eqb 61 b ≡ false → token_at (codes "!" ++ (b ∷ rest)) ≡ lexeme Bang 1
unfolding token_at
bang_token b rest other = rw other refl

pub bang_read : (b : ℕ) (rest : List ℕ) → eqb 61 b ≡ false → kinds 0 (codes "!" ++ (b ∷ rest)) ≡ Bang ∷ kinds 0 (b ∷ rest)
bang_read b rest other = kinds-token 33 [] (b ∷ rest) Bang refl (bang_token b rest other)
