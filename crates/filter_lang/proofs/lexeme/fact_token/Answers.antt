use Rattle.std.proofs.Common.{◌≡◌, ℕ, zero, suc, add-one, ap, ◌+◌, ◌<◌, Bool, List, [], ◌∷◌, length, drop, get_or, false, refl, sym, ◌∙◌, arith}
use Rattle.std.specs.List.{position_from}
use Rattle.std.specs.Str.{bytes_eq}
use Rattle.filter_lang.specs.Tokens.{fact_names}
use Rattle.filter_lang.proofs.lexeme.fact_token.Goals as goal

-- a name that fails the test is passed over
passes : (test : List ℕ → Bool) (at i : ℕ) (ns : List (List ℕ)) → i < length ns → test (get_or ns i []) ≡ false
    → position_from test (at + 1) (drop (suc i) ns) ≡ position_from test at (drop i ns)
passes test at i [] lt other = absurd (omega arith)
passes test at zero (n ∷ ns) lt other = rw other refl
passes test at (suc i) (n ∷ ns) lt other = passes test at i ns (omega arith) other

pub loop-place-preserved : goal.loop-place-preserved
loop-place-preserved c =
    let i = c.loop-place.place in
    let name = c.args.name.now in
    let other : bytes_eq name (get_or fact_names i []) ≡ false = ap (bytes_eq name) (sym c.fact_name.ensures) ∙ sym c.is.ensures ∙ c.if-is.false in
    ap (λ k. position_from (bytes_eq name) (i + 1) (drop k fact_names)) (add-one i)
    ∙ passes (bytes_eq name) i i fact_names (omega arith) other ∙ c.loop-place.invariant
