-- The tokens of a filter's text: the longest that fit, one after another, with blanks and tabs between.
use Rattle.std.specs.Prelude.{ℕ, zero, suc, ◌+◌, ◌-◌, ◌*◌, ◌^◌, min, Bool, ◌&&◌, ◌||◌, ◌==◌, if◌then◌else◌, nat_lt, nat_eq, List, [], ◌∷◌, length, map, take, drop, slice_index, codes, Option, None}
use Rattle.std.specs.Char.{is_ascii_digit, is_ascii_hexdigit, is_ascii_lowercase}
use Rattle.std.specs.List.{position_from, prefix_len, starts_with}
use Rattle.std.specs.Option.{option_map, option_or, unwrap_or}
use Rattle.std.specs.Str.{bytes_eq}
use Rattle.std.specs.Str.Parse.{digits_value}
use Rattle.number_text.specs.Numbers.{octet}
use Rattle.native_filters.specs.Facts.{facts}
use Rattle.filter_lang.specs.declared.term.Join.TheVariants.{Plus, Minus, Rem}
use Rattle.filter_lang.specs.declared.term.Op.TheVariants.{Eq, Ne, Lt, Le, Gt, Ge, Has}
use Rattle.filter_lang.specs.declared.lexeme.Lexeme.{Lexeme}
use Rattle.filter_lang.specs.declared.token.Token.{Token}
use Rattle.filter_lang.specs.declared.token.Token.TheVariants.{Bang, Open, Close, Both, Either, Joins, Compares, TrueWord, FalseWord, NativeWord, FactName, UnknownWord, Numeral, BigNumeral, Quad, Bad, End}

-- a token, and the offset at which it starts
pub record Placed : Type 0 where
  pub token : Token
  pub at : ℕ

abbrev pub lexeme : Token → ℕ → Lexeme
lexeme t n = record { token = t; len = n }

abbrev pub is_blank : ℕ → Bool
is_blank b = (b == 32) || (b == 9)

-- the names of the facts, in the order of their places
abbrev pub fact_names : List (List ℕ)
fact_names = map (λ row. row.0) facts

-- the token of a name: a word of the grammar, or a fact by its place
abbrev pub word_token : List ℕ → Token
word_token name =
    if bytes_eq name (codes "true") then TrueWord else
    if bytes_eq name (codes "false") then FalseWord else
    if bytes_eq name (codes "native") then NativeWord else
    if bytes_eq name (codes "has") then Compares Has else
    unwrap_or (option_map FactName (position_from (bytes_eq name) 0 fact_names)) UnknownWord

-- a name is a longest run of lower-case letters
abbrev pub name_at : List ℕ → Lexeme
name_at bs = let n = prefix_len is_ascii_lowercase bs in lexeme (word_token (take n bs)) n

abbrev pub numeral_token : ℕ → Token
numeral_token v = if nat_lt v (2 ^ 64) then Numeral v else BigNumeral

-- `0x` and hexadecimal digits in either case
abbrev pub begins_hex : List ℕ → Bool
begins_hex bs = (slice_index bs 0 == 48) && (slice_index bs 1 == 120) && is_ascii_hexdigit (slice_index bs 2)

abbrev pub hex_at : List ℕ → Lexeme
hex_at bs =
    let n = prefix_len is_ascii_hexdigit (drop 2 bs) in
    lexeme (numeral_token (digits_value 16 (take n (drop 2 bs)))) (n + 2)

-- one part of a dotted address, and then a dot: the number, and the length of both
abbrev pub dotted_part : List ℕ → Option (ℕ × ℕ)
dotted_part bs =
    let n = prefix_len is_ascii_digit bs in
    if slice_index bs n == 46 then option_map (λ number. (number, n + 1)) (octet (take n bs)) else None

-- the number of a part that so many digits are, with their count
abbrev pub part_of : ℕ → List ℕ → Option (ℕ × ℕ)
part_of n bs = option_map (λ number. (number, n)) (octet (take n bs))

-- the last part is the longest that fits
abbrev pub last_part : List ℕ → Option (ℕ × ℕ)
last_part bs = let n = prefix_len is_ascii_digit bs in option_or (part_of (min 3 n) bs) (part_of (min 2 n) bs)

-- a dotted address of which so many parts before the last are still to come: the number and the length
-- of what stands before, and the text from there on
unfoldable pub quad_from : ℕ → ℕ → ℕ → List ℕ → Lexeme
quad_from zero value len bs = unwrap_or (option_map (λ part. lexeme (Quad (value * 256 + part.0)) (len + part.1)) (last_part bs)) (lexeme Bad 1)
quad_from (suc parts) value len bs =
    unwrap_or (option_map (λ part. quad_from parts (value * 256 + part.0) (len + part.1) (drop part.1 bs)) (dotted_part bs)) (lexeme Bad 1)

-- decimal digits: a number, or the dotted form of an address where a dot follows them
abbrev pub decimal_at : List ℕ → Lexeme
decimal_at bs =
    let n = prefix_len is_ascii_digit bs in
    if slice_index bs n == 46 then quad_from 3 0 0 bs else lexeme (numeral_token (digits_value 10 (take n bs))) n

abbrev pub number_at : List ℕ → Lexeme
number_at bs = if begins_hex bs then hex_at bs else decimal_at bs

-- the signs, longer ones first, each with its token
abbrev pub signs : List (List ℕ × Token)
signs =
    (codes "!=", Compares Ne) ∷ (codes "<=", Compares Le) ∷ (codes ">=", Compares Ge) ∷ (codes "&&", Both) ∷ (codes "||", Either)
    ∷ (codes "=", Compares Eq) ∷ (codes "<", Compares Lt) ∷ (codes ">", Compares Gt) ∷ (codes "!", Bang) ∷ (codes "(", Open)
    ∷ (codes ")", Close) ∷ (codes "+", Joins Plus) ∷ (codes "-", Joins Minus) ∷ (codes "%", Joins Rem) ∷ []

-- the first sign of a table that a text begins with
abbrev pub sign_in : List (List ℕ × Token) → List ℕ → Lexeme
sign_in [] bs = lexeme Bad 1
sign_in (row ∷ rows) bs = if starts_with nat_eq bs row.0 then lexeme row.1 (length row.0) else sign_in rows bs

-- the token at the front of a text that begins with no blank
unfoldable pub token_at : List ℕ → Lexeme
token_at bs =
    if is_ascii_digit (slice_index bs 0) then number_at bs else
    if is_ascii_lowercase (slice_index bs 0) then name_at bs else
    sign_in signs bs

-- the tokens of a text that stands at an offset, where so many of its bytes are still of the token
-- before; the end is a token too
abbrev pub tokens_behind : ℕ → ℕ → List ℕ → List Placed
tokens_behind inside at [] = record { token = End; at = at } ∷ []
tokens_behind (suc inside) at (b ∷ bs) = tokens_behind inside (at + 1) bs
tokens_behind zero at (b ∷ bs) =
    if is_blank b then tokens_behind zero (at + 1) bs else
    record { token = (token_at (b ∷ bs)).token; at = at } ∷ tokens_behind ((token_at (b ∷ bs)).len - 1) (at + 1) bs

-- the tokens of a text
abbrev pub tokens : List ℕ → List Placed
tokens text = tokens_behind 0 0 text
