-- The tokens of a text are those that its lexemes make, one behind another.
use Rattle.std.proofs.Common.{◌≡◌, ℕ, zero, suc, ◌+◌, ◌-◌, ◌<◌, ◌≤◌, Bool, true, false, nat_lt, nat_eq, ◌==◌, ◌^◌, codes, slice_index, List, [], ◌∷◌, drop, take, length, length-drop, get_or, refl, cond, lt-ltb, ap, ◌∙◌, sym, subst, add-zero, Option, Some, None, arith}
use Rattle.std.proofs.lemmas.List.{drop-drop, drop_all, get_or-drop}
use Rattle.std.proofs.lemmas.List.Sums.{prefix_len_stops}
use Rattle.std.specs.Bool.{if◌then◌else◌}
use Rattle.std.specs.Char.{is_ascii_digit, is_ascii_lowercase}
use Rattle.std.specs.List.{position_from, prefix_len, starts_with}
use Rattle.std.specs.Option.{option_map, unwrap_or}
use Rattle.std.specs.Str.{bytes_eq}
use Rattle.filter_lang.specs.declared.lexeme.Lexeme.{Lexeme}
use Rattle.filter_lang.specs.declared.token.Token.{Token}
use Rattle.filter_lang.specs.declared.token.Token.TheVariants.{Bad, End, FactName, UnknownWord}
use Rattle.filter_lang.specs.Tokens.{lexeme, is_blank, fact_names, word_token, name_at, numeral_token, begins_hex, dotted_part, last_part, quad_from, number_at, signs, sign_in, token_at, tokens_behind}
use Rattle.filter_lang.specs.Words.{is_end, has_fact_within}

-- A token of the code is never the end, and its fact has a place.
pub record IsSound (t : Token) : Type 0 where
  pub open_ended : is_end t ≡ false
  pub fact : has_fact_within t ≡ true

sound_if : (b : Bool) (t u : Token) → IsSound t → IsSound u → IsSound (if b then t else u)
sound_if true t u p q = p
sound_if false t u p q = q

lexeme_if : (b : Bool) (x y : Lexeme) → IsSound x.token → IsSound y.token → IsSound (if b then x else y).token
lexeme_if true x y p q = p
lexeme_if false x y p q = q

found-sound : (b : Bool) (place : ℕ) (more : Option ℕ) → place < 20 → IsSound (unwrap_or (option_map FactName more) UnknownWord)
    → IsSound (unwrap_or (option_map FactName (cond b (Some place) more)) UnknownWord)
found-sound true place more h sound = record { open_ended = refl; fact = lt-ltb place 20 h }
found-sound false place more h sound = sound

fact-sound : (place : ℕ) (ns : List (List ℕ)) (name : List ℕ) → place + length ns ≤ 20
    → IsSound (unwrap_or (option_map FactName (position_from (bytes_eq name) place ns)) UnknownWord)
fact-sound place [] name h = record { open_ended = refl; fact = refl }
fact-sound place (n ∷ ns) name h = found-sound (bytes_eq name n) place _ (omega arith) (fact-sound (place + 1) ns name (omega arith))

word_token-sound : (name : List ℕ) → IsSound (word_token name)
word_token-sound name =
    sound_if (bytes_eq name (codes "true")) _ _ (record { open_ended = refl; fact = refl })
    (sound_if (bytes_eq name (codes "false")) _ _ (record { open_ended = refl; fact = refl })
    (sound_if (bytes_eq name (codes "native")) _ _ (record { open_ended = refl; fact = refl })
    (sound_if (bytes_eq name (codes "has")) _ _ (record { open_ended = refl; fact = refl })
    (fact-sound 0 fact_names name (omega arith)))))

numeral_token-sound : (v : ℕ) → IsSound (numeral_token v)
numeral_token-sound v = sound_if (nat_lt v (2 ^ 64)) _ _ (record { open_ended = refl; fact = refl }) (record { open_ended = refl; fact = refl })

part-sound : (o : Option (ℕ × ℕ)) (k : ℕ × ℕ → Lexeme) → ((part : ℕ × ℕ) → IsSound (k part).token) → IsSound (unwrap_or (option_map k o) (lexeme Bad 1)).token
part-sound None k more = record { open_ended = refl; fact = refl }
part-sound (Some part) k more = more part

quad_from-sound : (parts value len : ℕ) (bs : List ℕ) → IsSound (quad_from parts value len bs).token
unfolding quad_from
quad_from-sound zero value len bs = part-sound (last_part bs) _ (λ part. record { open_ended = refl; fact = refl })
quad_from-sound (suc parts) value len bs = part-sound (dotted_part bs) _ (λ part. quad_from-sound parts _ _ _)

number_at-sound : (bs : List ℕ) → IsSound (number_at bs).token
number_at-sound bs =
    lexeme_if (begins_hex bs) _ _ (numeral_token-sound _)
    (lexeme_if (slice_index bs (prefix_len is_ascii_digit bs) == 46) _ _ (quad_from-sound 3 0 0 bs) (numeral_token-sound _))

-- each sign has a byte or more, and a sound token
abbrev pub AreSigns : List (List ℕ × Token) → Type 0
AreSigns [] = Unit {0}
AreSigns (row ∷ rows) = ((nat_lt 0 (length row.0) ≡ true) × IsSound row.1) × AreSigns rows

pub signs-are : AreSigns signs
signs-are =
    let s : (t : Token) → is_end t ≡ false → has_fact_within t ≡ true → (true ≡ true) × IsSound t = λ t p q. (refl, record { open_ended = p; fact = q }) in
    (s _ refl refl, (s _ refl refl, (s _ refl refl, (s _ refl refl, (s _ refl refl, (s _ refl refl, (s _ refl refl, (s _ refl refl, (s _ refl refl, (s _ refl refl, (s _ refl refl, (s _ refl refl, (s _ refl refl, (s _ refl refl, tt))))))))))))))

sign_in-sound : (rows : List (List ℕ × Token)) (bs : List ℕ) → AreSigns rows → IsSound (sign_in rows bs).token
sign_in-sound [] bs h = record { open_ended = refl; fact = refl }
sign_in-sound (row ∷ rows) bs h = lexeme_if (starts_with nat_eq bs row.0) _ _ h.0.1 (sign_in-sound rows bs h.1)

pub token_at-sound : (bs : List ℕ) → IsSound (token_at bs).token
unfolding token_at
token_at-sound bs =
    let name = prefix_len is_ascii_lowercase bs in
    lexeme_if (is_ascii_digit (slice_index bs 0)) (number_at bs) _ (number_at-sound bs)
    (lexeme_if (is_ascii_lowercase (slice_index bs 0)) (name_at bs) (sign_in signs bs) (word_token-sound (take name bs)) (sign_in-sound signs bs signs-are))

-- blanks make no token
blank_step : (t : Bool) (at b : ℕ) (bs : List ℕ) (n : ℕ) → is_blank b ≡ t → suc n ≡ cond t (1 + prefix_len is_blank bs) 0
    → (n ≡ prefix_len is_blank bs → tokens_behind 0 (at + 1) bs ≡ tokens_behind 0 (at + 1 + n) (drop n bs)) → tokens_behind 0 at (b ∷ bs) ≡ tokens_behind 0 (at + suc n) (drop n bs)
blank_step true at b bs n blank e more = rw blank (more (omega arith) ∙ ap (λ m. tokens_behind 0 m (drop n bs)) (omega arith))
blank_step false at b bs n blank e more = absurd (omega arith)

pub tokens_behind-blanks : (at : ℕ) (bs : List ℕ) (n : ℕ) → n ≡ prefix_len is_blank bs → tokens_behind 0 at bs ≡ tokens_behind 0 (at + n) (drop n bs)
tokens_behind-blanks at bs zero e = rw add-zero refl
tokens_behind-blanks at [] (suc n) e = absurd (omega arith)
tokens_behind-blanks at (b ∷ bs) (suc n) e = blank_step (is_blank b) at b bs n refl e (tokens_behind-blanks (at + 1) bs n)

-- the bytes of the token before make none
tokens_behind-inside : (k at : ℕ) (bs : List ℕ) → k ≤ length bs → tokens_behind k at bs ≡ tokens_behind 0 (at + k) (drop k bs)
tokens_behind-inside zero at bs h = rw add-zero refl
tokens_behind-inside (suc k) at [] h = absurd (omega arith)
tokens_behind-inside (suc k) at (b ∷ bs) h =
    tokens_behind-inside k (at + 1) bs (omega arith) ∙ ap (λ n. tokens_behind 0 n (drop k bs)) (omega arith)

-- a text that begins with no blank begins with a token
pub tokens_behind-front : (at : ℕ) (bs : List ℕ) (len : ℕ) → 0 < length bs → is_blank (get_or bs 0 0) ≡ false → len ≡ (token_at bs).len → 0 < len
    → len ≤ length bs → tokens_behind 0 at bs ≡ record { token = (token_at bs).token; at = at } ∷ tokens_behind 0 (at + len) (drop len bs)
tokens_behind-front at [] len some blank e long within = absurd (omega arith)
tokens_behind-front at (b ∷ bs) zero some blank e long within = absurd (omega arith)
tokens_behind-front at (b ∷ bs) (suc k) some blank e long within =
    let inside : (token_at (b ∷ bs)).len - 1 ≡ k = omega arith in
    let rest : tokens_behind ((token_at (b ∷ bs)).len - 1) (at + 1) bs ≡ tokens_behind 0 (at + suc k) (drop k bs) =
    ap (λ m. tokens_behind m (at + 1) bs) inside ∙ tokens_behind-inside k (at + 1) bs (omega arith) ∙ ap (λ n. tokens_behind 0 n (drop k bs)) (omega arith) in
    rw blank (ap (λ ts. record { token = (token_at (b ∷ bs)).token; at = at } ∷ ts) rest)

-- the same behind blanks, in a text from an offset on
pub tokens_behind-found : (text : List ℕ) (place at len : ℕ) → place ≤ length text → at ≡ place + prefix_len is_blank (drop place text)
    → at < length text → len ≡ (token_at (drop at text)).len → 0 < len → at + len ≤ length text
    → tokens_behind 0 place (drop place text) ≡ record { token = (token_at (drop at text)).token; at = at } ∷ tokens_behind 0 (at + len) (drop (at + len) text)
tokens_behind-found text place at len inside start some e long within =
    let n = prefix_len is_blank (drop place text) in
    let short : n < length (drop place text) = omega (arith, length-drop place text) in
    let same : drop n (drop place text) ≡ drop at text = drop-drop n place text ∙ ap (λ k. drop k text) (sym start) in
    let blank : is_blank (get_or (drop at text) 0 0) ≡ false =
    subst (λ xs. is_blank xs ≡ false) (ap (λ k. get_or (drop place text) k 0) (sym (add-zero n)) ∙ sym (get_or-drop n (drop place text) 0 0) ∙ ap (λ xs. get_or xs 0 0) same)
    (prefix_len_stops is_blank (drop place text) 0 short) in
    tokens_behind-blanks place (drop place text) n refl ∙ ap (λ xs. tokens_behind 0 (place + n) xs) same ∙ ap (λ k. tokens_behind 0 k (drop at text)) (sym start)
    ∙ tokens_behind-front at (drop at text) len (omega (arith, length-drop at text)) blank e long (omega (arith, length-drop at text))
    ∙ ap (λ xs. record { token = (token_at (drop at text)).token; at = at } ∷ tokens_behind 0 (at + len) xs) (drop-drop len at text)

pub tokens_behind-ended : (text : List ℕ) (place at : ℕ) → at ≡ place + prefix_len is_blank (drop place text) → length text ≤ at
    → tokens_behind 0 place (drop place text) ≡ record { token = End; at = at } ∷ []
tokens_behind-ended text place at start ended =
    let n = prefix_len is_blank (drop place text) in
    let same : drop n (drop place text) ≡ [] = drop-drop n place text ∙ drop_all (place + n) text (omega arith) in
    tokens_behind-blanks place (drop place text) n refl ∙ ap (λ xs. tokens_behind 0 (place + n) xs) same ∙ ap (λ k. record { token = End; at = k } ∷ []) (sym start)
