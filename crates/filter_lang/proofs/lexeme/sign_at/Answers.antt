use Rattle.std.proofs.Common.{◌≡◌, ℕ, zero, suc, add-one, ap, ◌<◌, List, [], ◌∷◌, length, drop, get_or, nat_eq, true, false, refl, ◌∙◌, sym, arith}
use Rattle.std.proofs.lemmas.Bool.Decides.{nat_tests}
use Rattle.std.proofs.lemmas.Grind.{common_steps}
use Rattle.std.specs.List.{starts_with}
use Rattle.filter_lang.specs.declared.token.Token.{Token}
use Rattle.filter_lang.specs.declared.token.Token.TheVariants.{Bad}
use Rattle.filter_lang.specs.Tokens.{lexeme, signs, sign_in}
use Rattle.filter_lang.proofs.Lexemes.{AreSigns, signs-are}
use Rattle.filter_lang.proofs.lexeme.sign_at.Goals as goal

-- a sign that the text begins with is found
sign_in_takes : (i : ℕ) (rows : List (List ℕ × Token)) (bs : List ℕ) → i < length rows → starts_with nat_eq bs (get_or rows i ([], Bad)).0 ≡ true
    → sign_in (drop i rows) bs ≡ lexeme (get_or rows i ([], Bad)).1 (length (get_or rows i ([], Bad)).0)
sign_in_takes i [] bs lt here = absurd (omega arith)
sign_in_takes zero (row ∷ rows) bs lt here = rw here refl
sign_in_takes (suc i) (row ∷ rows) bs lt here = sign_in_takes i rows bs (omega arith) here

-- any other is passed over
sign_in_passes : (i : ℕ) (rows : List (List ℕ × Token)) (bs : List ℕ) → i < length rows → starts_with nat_eq bs (get_or rows i ([], Bad)).0 ≡ false
    → sign_in (drop (suc i) rows) bs ≡ sign_in (drop i rows) bs
sign_in_passes i [] bs lt other = absurd (omega arith)
sign_in_passes zero (row ∷ rows) bs lt other = rw other refl
sign_in_passes (suc i) (row ∷ rows) bs lt other = sign_in_passes i rows bs (omega arith) other

-- a sign has a byte or more
sign_some : (i : ℕ) (rows : List (List ℕ × Token)) → AreSigns rows → i < length rows → 0 < length (get_or rows i ([], Bad)).0
sign_some i [] h lt = absurd (omega arith)
sign_some zero (row ∷ rows) h lt = let some = h.0.0 in grind (arith, nat_tests)
sign_some (suc i) (row ∷ rows) h lt = sign_some i rows h.1 (omega arith)

pub returns-then-starts_with : goal.returns-then-starts_with
returns-then-starts_with c =
    let i = c.loop-sign.sign-index in
    let here : starts_with nat_eq c.args.bytes.now (get_or signs i ([], Bad)).0 ≡ true = grind (arith, common_steps) in
    let taken = sym (sign_in_takes i signs c.args.bytes.now (omega arith) here) ∙ c.loop-sign.invariant in
    let long = sign_some i signs signs-are (omega arith) in
    record { value = grind (arith, common_steps); some = grind (arith, common_steps); within = grind (arith, common_steps) }

pub loop-sign-preserved : goal.loop-sign-preserved
loop-sign-preserved c =
    let i = c.loop-sign.sign-index in
    let other : starts_with nat_eq c.args.bytes.now (get_or signs i ([], Bad)).0 ≡ false = grind (arith, common_steps) in
    ap (λ k. sign_in (drop k signs) c.args.bytes.now) (add-one i)
    ∙ sign_in_passes i signs c.args.bytes.now (omega arith) other ∙ c.loop-sign.invariant
