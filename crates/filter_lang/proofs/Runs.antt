-- The tokens of a text without their offsets, and what they read as.
use Rattle.std.proofs.Common.{◌≡◌, ℕ, zero, suc, ◌+◌, ◌-◌, Bool, true, false, cond, List, [], ◌∷◌, ◌++◌, map, length, Option, Some, None, Ok, refl, ap, ◌∙◌, arith}
use Rattle.filter_lang.specs.declared.token.Token.{Token}
use Rattle.filter_lang.specs.declared.token.Token.TheVariants.{End}
use Rattle.filter_lang.specs.Grammar.{Place, Next, go, done, stop, next, steps, read}
use Rattle.filter_lang.specs.Shape.{Shape}
use Rattle.filter_lang.specs.Tokens.{Placed, lexeme, is_blank, token_at, tokens_behind}

abbrev pub kinds : ℕ → List ℕ → List Token
kinds inside [] = End ∷ []
kinds (suc inside) (b ∷ bs) = kinds inside bs
kinds zero (b ∷ bs) = cond (is_blank b) (kinds zero bs) ((token_at (b ∷ bs)).token ∷ kinds ((token_at (b ∷ bs)).len - 1) bs)

kinds-step : (t : Bool) (b at : ℕ) (bs : List ℕ) (len : ℕ) → is_blank b ≡ t → ((i n : ℕ) → map (λ x. x.token) (tokens_behind i n bs) ≡ kinds i bs)
    → map (λ x. x.token) (tokens_behind 0 at (b ∷ bs)) ≡ kinds 0 (b ∷ bs)
kinds-step true b at bs len blank more = rw blank (more 0 (at + 1))
kinds-step false b at bs len blank more = rw blank (ap (λ ts. (token_at (b ∷ bs)).token ∷ ts) (more ((token_at (b ∷ bs)).len - 1) (at + 1)))

pub map-tokens_behind : (i at : ℕ) (bs : List ℕ) → map (λ x. x.token) (tokens_behind i at bs) ≡ kinds i bs
map-tokens_behind zero at [] = refl
map-tokens_behind (suc i) at [] = refl
map-tokens_behind (suc i) at (b ∷ bs) = map-tokens_behind i (at + 1) bs
map-tokens_behind zero at (b ∷ bs) = kinds-step (is_blank b) b at bs 0 refl (λ i n. map-tokens_behind i n bs)

-- a step, and what the tokens read as from a place on, if they are a filter
abbrev pub on : (Place → Option Shape) → Next → Option Shape
on k (go p) = k p
on k (done s) = Some s
on k (stop refusal) = None

abbrev pub run : List Token → Place → Option Shape
run [] p = None
run (t ∷ ts) p = on (run ts) (next p t)

read-step : (n : Next) (ts : List Placed) (at : ℕ) (s : Shape) → ((p : Place) → run (map (λ x. x.token) ts) p ≡ Some s → read ts p ≡ Ok s)
    → on (run (map (λ x. x.token) ts)) n ≡ Some s → steps (read ts) at n ≡ Ok s
read-step (go p) ts at s more e = more p e
read-step (done r) ts at s more e = let same : r ≡ s = cc in ap Ok same
read-step (stop refusal) ts at s more e = absurd (cc)

pub read-run : (ts : List Placed) (p : Place) (s : Shape) → run (map (λ x. x.token) ts) p ≡ Some s → read ts p ≡ Ok s
read-run [] p s e = absurd (cc)
read-run (t ∷ ts) p s e = read-step (next p t.token) ts t.at s (λ q. read-run ts q s) e

-- the bytes of a token make no other
kinds-behind : (ws rest : List ℕ) → kinds (length ws) (ws ++ rest) ≡ kinds 0 rest
kinds-behind [] rest = refl
kinds-behind (w ∷ ws) rest = kinds-behind ws rest

-- one token, and then the rest
pub kinds-token : (b : ℕ) (ws rest : List ℕ) (t : Token) → is_blank b ≡ false → token_at (b ∷ (ws ++ rest)) ≡ lexeme t (suc (length ws)) → kinds 0 (b ∷ (ws ++ rest)) ≡ t ∷ kinds 0 rest
kinds-token b ws rest t blank e =
    let len : (token_at (b ∷ (ws ++ rest))).len - 1 ≡ length ws = omega (arith, ap (λ x. x.len) e) in
    rw blank (ap (λ x. x ∷ kinds ((token_at (b ∷ (ws ++ rest))).len - 1) (ws ++ rest)) (ap (λ x. x.token) e)
    ∙ ap (λ k. t ∷ kinds k (ws ++ rest)) len ∙ ap (λ ts. t ∷ ts) (kinds-behind ws rest))
