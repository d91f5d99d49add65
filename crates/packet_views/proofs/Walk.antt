-- The walk over the TCP options, by the place that it has reached.
use Rattle.std.proofs.Common.{◌≡◌, ◌≢◌, ◌⊎◌, ℕ, zero, suc, ◌+◌, ◌-◌, ◌<◌, ◌≤◌, ◌==◌, ◌&&◌, false, List, [], ◌∷◌, length, drop, slice_index, refl, sym, ap, ◌∙◌, inl, inr, arith, add-one}
use Rattle.std.proofs.Math.Seq.{drop-cons}
use Rattle.std.proofs.lemmas.Bool.{ne_eqb}
use Rattle.std.proofs.lemmas.List.{drop-drop}
use Rattle.packet_views.specs.Options.{option_length, has_bad_length, scale_after}

-- passing over bytes and dropping them is the same
scale_after-skip : (skip : ℕ) (xs : List ℕ) → scale_after skip xs ≡ scale_after 0 (drop skip xs)
scale_after-skip zero xs = refl
scale_after-skip (suc skip) [] = refl
scale_after-skip (suc skip) (x ∷ xs) = scale_after-skip skip xs

is_no_scale : (kind len : ℕ) → (kind ≡ 3 × len ≢ 3) ⊎ (kind ≢ 3) → (kind == 3 && len == 3) ≡ false
is_no_scale kind len (inl h) = rw (h.0, ne_eqb len 3 h.1) refl
is_no_scale kind len (inr h) = rw (ne_eqb kind 3 h) refl

scale_after-cons : (kind : ℕ) (rest : List ℕ)
    → (kind == 0) ≡ false → (kind == 1) ≡ false → has_bad_length rest ≡ false
    → (kind == 3 && option_length rest == 3) ≡ false
    → scale_after 0 (kind ∷ rest) ≡ scale_after (option_length rest - 1) rest
scale_after-cons kind rest p q r s = rw (p, q, r, s) refl

-- what the walk finds from an option that it passes over, it finds from the next one
pub scale_after-passed : (xs : List ℕ) (at len : ℕ) → at < length xs
    → slice_index xs at ≢ 0 → slice_index xs at ≢ 1
    → has_bad_length (drop (at + 1) xs) ≡ false
    → len ≡ option_length (drop (at + 1) xs) → 2 ≤ len
    → (slice_index xs at ≡ 3 × len ≢ 3) ⊎ (slice_index xs at ≢ 3)
    → scale_after 0 (drop (at + len) xs) ≡ scale_after 0 (drop at xs)
scale_after-passed xs at len h not_end not_one good is_len low other =
    let rest : List ℕ = drop (at + 1) xs in
    let kind : ℕ = slice_index xs at in
    let head : drop at xs ≡ kind ∷ rest = drop-cons xs at 0 h ∙ ap (λ (i : ℕ). kind ∷ drop i xs) (sym (add-one at)) in
    let place : at + 1 + (len - 1) ≡ at + len = omega arith in
    let jump : drop (at + len) xs ≡ drop (len - 1) rest = ap (λ (i : ℕ). drop i xs) (sym place) ∙ sym (drop-drop (len - 1) (at + 1) xs) in
    let step : scale_after 0 (kind ∷ rest) ≡ scale_after (option_length rest - 1) rest =
    scale_after-cons kind rest (ne_eqb kind 0 not_end) (ne_eqb kind 1 not_one) good (rw is_len at (is_no_scale kind len other)) in
    ap (scale_after 0) jump
    ∙ sym (scale_after-skip (len - 1) rest)
    ∙ ap (λ (n : ℕ). scale_after (n - 1) rest) is_len
    ∙ sym step
    ∙ ap (scale_after 0) (sym head)
