-- Words and lines, cut off at the front of a text as the code does.
use Rattle.std.proofs.Common.{◌≡◌, ℕ, zero, suc, ◌+◌, ◌-◌, ◌<◌, ◌≤◌, Bool, true, false, cond, not, ◌&&◌, List, [], ◌∷◌, ◌++◌, length, length-drop, get_or, take, take_all, drop, refl, ap, sym, ◌∙◌, arith}
use Rattle.std.proofs.lemmas.Bool.Decides.{nat_tests}
use Rattle.std.proofs.lemmas.List.{drop_all}
use Rattle.std.specs.Prelude.{◌==◌}
use Rattle.std.specs.List.{prefix_len, list_all}
use Rattle.control_script.specs.Reader.{behind}
use Rattle.control_script.specs.Lines.{lines, without_return, is_text}
use Rattle.control_script.specs.Cuts.{position_of}
use Rattle.filter_lang.specs.Tokens.{is_blank}
use Rattle.control_script.specs.Words.{Word, is_in_word, words_behind, words}

-- bytes of the word before make no other
inside : (n : ℕ) (bs : List ℕ) → words_behind n bs ≡ words_behind 0 (drop n bs)
inside zero bs = refl
inside (suc n) [] = refl
inside (suc n) (b ∷ bs) = inside n bs

-- behind so many blanks a word of so many bytes, and the words behind it
abbrev pub front : ℕ → ℕ → List ℕ → List Word
front n m text =
    record { text = take m (drop n text); behind = drop m (drop n text) } ∷ behind (take m (drop n text)) (words (drop m (drop n text)))

word-step : (b : ℕ) (bs : List ℕ) (m : ℕ) → is_blank b ≡ false → m ≡ 1 + prefix_len is_in_word bs → words (b ∷ bs) ≡ front 0 m (b ∷ bs)
word-step b bs zero other e = absurd (omega arith)
word-step b bs (suc k) other e =
    let same : prefix_len is_in_word bs ≡ k = omega arith in
    rw (other, same) (ap (λ ws. record { text = b ∷ take k bs; behind = drop k bs } ∷ ws) (inside k bs))

front-step : (t : Bool) (b : ℕ) (bs : List ℕ) (n m : ℕ) → is_blank b ≡ t → n ≡ cond t (1 + prefix_len is_blank bs) 0
    → m ≡ prefix_len is_in_word (drop n (b ∷ bs)) → ((k j : ℕ) → k ≡ prefix_len is_blank bs → j ≡ prefix_len is_in_word (drop k bs)
    → words bs ≡ front k j bs) → words (b ∷ bs) ≡ front n m (b ∷ bs)
front-step true b bs zero m same e f more = absurd (omega arith)
front-step true b bs (suc n) m same e f more = rw same (more n m (omega arith) f)
front-step false b bs (suc n) m other e f more = absurd (omega arith)
front-step false b bs zero m other e f more = word-step b bs m other (rw other at f)

-- the first word of a text
pub front-word : (text : List ℕ) (n m : ℕ) → n ≡ prefix_len is_blank text → m ≡ prefix_len is_in_word (drop n text) → words text ≡ front n m text
front-word [] zero zero e f = refl
front-word [] zero (suc m) e f = absurd (omega arith)
front-word [] (suc n) m e f = absurd (omega arith)
front-word (b ∷ bs) n m e f = front-step (is_blank b) b bs n m refl e f (front-word bs)

line-step : (t : Bool) (b : ℕ) (bs : List ℕ) (n : ℕ) → (b == 10) ≡ t → n ≡ cond (not t) (1 + position_of 10 bs) 0
    → ((k : ℕ) → 0 < length bs → k ≡ position_of 10 bs → lines bs ≡ take k bs ∷ lines (drop (suc k) bs)) → lines (b ∷ bs) ≡ take n (b ∷ bs) ∷ lines (drop n bs)
line-step true b bs zero same e more = rw same refl
line-step true b bs (suc n) same e more = absurd (omega arith)
line-step false b bs zero other e more = absurd (omega arith)
line-step false b [] (suc zero) other e more = rw other refl
line-step false b [] (suc (suc n)) other e more = absurd (omega arith)
line-step false b (c ∷ bs) (suc n) other e more = rw (other, more n (omega arith) (omega arith)) refl

-- the first line of a text
pub front-line : (text : List ℕ) (n : ℕ) → 0 < length text → n ≡ position_of 10 text → lines text ≡ take n text ∷ lines (drop (suc n) text)
front-line [] n some e = absurd (omega arith)
front-line (b ∷ bs) n some e = line-step (b == 10) b bs n refl e (front-line bs)

pub return-dropped : (bs : List ℕ) → without_return (bs ++ 13 ∷ []) ≡ bs
return-dropped [] = refl
return-dropped (b ∷ []) = refl
return-dropped (b ∷ c ∷ bs) = ap (λ cs. b ∷ cs) (return-dropped (c ∷ bs))

pub other-kept : (bs : List ℕ) (b : ℕ) → (b == 13) ≡ false → without_return (bs ++ b ∷ []) ≡ bs ++ b ∷ []
other-kept [] b other = rw other refl
other-kept (a ∷ []) b other = rw other refl
other-kept (a ∷ c ∷ bs) b other = ap (λ cs. a ∷ cs) (other-kept (c ∷ bs) b other)

-- the slice from an offset on
pub from_offset : (bs : List ℕ) (n : ℕ) → take (length bs - n) (drop n bs) ≡ drop n bs
from_offset bs n = take_all (length bs - n) (drop n bs) (omega (arith, length-drop n bs))

first : (a b : Bool) → (a && b) ≡ true → a ≡ true
first true b h = refl
first false b h = absurd (cc)

second : (a b : Bool) → (a && b) ≡ true → b ≡ true
second true b h = h
second false b h = absurd (cc)

-- what is true of each is true of those behind an offset
pub dropped : (p : ℕ → Bool) (n : ℕ) (bs : List ℕ) → list_all p bs ≡ true → list_all p (drop n bs) ≡ true
dropped p zero bs h = h
dropped p (suc n) [] h = refl
dropped p (suc n) (b ∷ bs) h = dropped p n bs (second (p b) (list_all p bs) h)

-- the first word as the code cuts it off
pub cut-word : (text begun rest : List ℕ) (n m : ℕ) → begun ≡ drop n text → rest ≡ drop m begun → n ≡ prefix_len is_blank text
    → m ≡ prefix_len is_in_word begun → record { text = take m begun; behind = rest } ∷ behind (take m begun) (words rest) ≡ words text
cut-word text begun rest n m e f g h =
    let size : m ≡ prefix_len is_in_word (drop n text) = h ∙ ap (prefix_len is_in_word) e in
    let same : rest ≡ drop m (drop n text) = f ∙ ap (drop m) e in
    rw (same, e) (sym (front-word text n m g size))

-- the text behind the first line as the code cuts it off
pub cut-line : (text : List ℕ) (n m : ℕ) → 0 < length text → n ≡ position_of 10 text → drop m text ≡ drop (suc n) text → lines text ≡ take n text ∷ lines (take (length text - m) (drop m text))
cut-line text n m some e f = front-line text n some e ∙ ap (λ bs. take n text ∷ lines bs) (sym f ∙ sym (from_offset text m))

pub behind-end : (text : List ℕ) (n m : ℕ) → m ≡ n → length text ≤ n → drop m text ≡ drop (suc n) text
behind-end text n m e over = drop_all m text (omega arith) ∙ sym (drop_all (suc n) text (omega arith))

pub behind-some : (word : List ℕ) (ws : List Word) → 0 < length word → behind word ws ≡ ws
behind-some [] ws some = absurd (omega arith)
behind-some (b ∷ bs) ws some = refl

text-byte : (b : ℕ) → is_text b ≡ true → b < 128
text-byte b h = grind (arith, nat_tests)

-- text is ASCII
pub ascii : (bs : List ℕ) → list_all is_text bs ≡ true → (i : ℕ) → get_or bs i 0 < 128
ascii [] h zero = omega arith
ascii [] h (suc i) = omega arith
ascii (b ∷ bs) h zero = text-byte b (first (is_text b) (list_all is_text bs) h)
ascii (b ∷ bs) h (suc i) = ascii bs (second (is_text b) (list_all is_text bs) h) i
