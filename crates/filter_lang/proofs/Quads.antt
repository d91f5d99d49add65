-- The steps of a dotted address.
use Rattle.std.proofs.Common.{◌≡◌, ℕ, zero, suc, ◌+◌, ◌-◌, ◌*◌, ◌^◌, ◌<◌, List, drop, take, take_all, length, length-drop, Option, ap, sym, arith}
use Rattle.filter_lang.specs.declared.token.Token.TheVariants.{Quad, Bad}
use Rattle.std.specs.Option.{option_map, unwrap_or}
use Rattle.filter_lang.specs.Tokens.{lexeme, quad_from, dotted_part, last_part}

-- the slice from an offset on
pub from_offset : (bs : List ℕ) (n : ℕ) → take (length bs - n) (drop n bs) ≡ drop n bs
from_offset bs n = take_all (length bs - n) (drop n bs) (omega (arith, length-drop n bs))

pub quad_from-part : (parts value len : ℕ) (bs : List ℕ) (found : Option (ℕ × ℕ)) → found ≡ dotted_part bs
    → quad_from (suc parts) value len bs ≡ unwrap_or (option_map (λ part. quad_from parts (value * 256 + part.0) (len + part.1) (drop part.1 bs)) found) (lexeme Bad 1)
unfolding quad_from
quad_from-part parts value len bs found h =
    ap (λ o. unwrap_or (option_map (λ part. quad_from parts (value * 256 + part.0) (len + part.1) (drop part.1 bs)) o) (lexeme Bad 1)) (sym h)

pub quad_from-last : (value len : ℕ) (bs : List ℕ) (found : Option (ℕ × ℕ)) → found ≡ last_part bs
    → quad_from 0 value len bs ≡ unwrap_or (option_map (λ part. lexeme (Quad (value * 256 + part.0)) (len + part.1)) found) (lexeme Bad 1)
unfolding quad_from
quad_from-last value len bs found h =
    ap (λ o. unwrap_or (option_map (λ part. lexeme (Quad (value * 256 + part.0)) (len + part.1)) o) (lexeme Bad 1)) (sym h)

-- an address grows by one byte a part
pub fits_step : (i a n : ℕ) → i < 3 → a < 256 ^ i → n < 256 → (a * 256 + n < 256 ^ (i + 1)) × (a * 256 + n < 2 ^ 24)
fits_step zero a n lt h small = (omega arith, omega arith)
fits_step (suc zero) a n lt h small = (omega arith, omega arith)
fits_step (suc (suc zero)) a n lt h small = (omega arith, omega arith)
fits_step (suc (suc (suc i))) a n lt h small = absurd (omega arith)
