-- The members of a chain, as they are read.
use Rattle.std.proofs.Common.{◌≡◌, ◌≤◌, ℕ, List, [], ◌∷◌, ◌++◌, length, Result, Ok, Err, refl, ap, ◌∙◌, zero-add, arith}
use Rattle.filter_lang.specs.declared.error.FilterError.{FilterError}
use Rattle.filter_lang.specs.declared.lexer.Lexer.{Lexer}
use Rattle.filter_lang.specs.declared.term.Term.{Term}
use Rattle.filter_lang.specs.declared.token.Token.{Token}
use Rattle.filter_lang.specs.declared.token.Token.TheVariants.{Bang, Open, Both, Either, TrueWord, FalseWord, NativeWord}
use Rattle.filter_lang.specs.Grammar.{Level, left, alone, next_unit, next_atom, shapes_of, chain_of, unit_place, behind_unit, behind_conjs, opened, next_behind, behind_conj, behind_expr, steps, read}
use Rattle.filter_lang.specs.Lexer.{ahead, later}
use Rattle.filter_lang.specs.Parser.{reads, takes, Parses, ReadsUnit, RefusesUnit, ReadsComparison, RefusesComparison, ReadsConjunction}
use Rattle.filter_lang.specs.Shape.{Shape, Shapes, shape, shapes, more, AllOf, AnyOf, IsWithin, AreWithin, HasTwo}

abbrev pub shape_list : List Term → List Shape
shape_list [] = []
shape_list (t ∷ ts) = shape t ∷ shape_list ts

chain-shape_list : (ts : List Term) → shapes_of (shape_list ts) ≡ shapes ts
chain-shape_list [] = refl
chain-shape_list (t ∷ ts) = ap (more (shape t)) (chain-shape_list ts)

pub shape_list-push : (ts : List Term) (t : Term) → shape_list (ts ++ t ∷ []) ≡ shape_list ts ++ shape t ∷ []
shape_list-push [] t = refl
shape_list-push (u ∷ ts) t = ap (λ ss. shape u ∷ ss) (shape_list-push ts t)

pub within-push : (ts : List Term) (t : Term) → AreWithin (shapes ts) → IsWithin (shape t) → AreWithin (shapes (ts ++ t ∷ []))
within-push [] t all one = (one, tt)
within-push (u ∷ ts) t all one = (all.0, within-push ts t all.1 one)

pub two-shapes : (ts : List Term) → 2 ≤ length ts → HasTwo (shapes ts)
two-shapes [] h = absurd (omega arith)
two-shapes (t ∷ []) h = absurd (omega arith)
two-shapes (t ∷ u ∷ ts) h = tt

-- two members or more are a chain
pub chain_of-many : (node : Shapes → Shape) (ts : List Term) → 2 ≤ length ts → chain_of node (shape_list ts) ≡ node (shapes ts)
chain_of-many node [] h = absurd (omega arith)
chain_of-many node (t ∷ []) h = absurd (omega arith)
chain_of-many node (t ∷ u ∷ ts) h = ap node (chain-shape_list (t ∷ u ∷ ts))

pub next_behind-other : (t : Token) (l : Level) (os : List Level) → (t ≡ Both → ⊥) → next_behind l os t ≡ behind_conj (l.conjs ++ chain_of AllOf l.units ∷ []) os t
next_behind-other Both l os h = absurd (h refl)
next_behind-other _ l os h = refl

pub behind_conj-other : (t : Token) (cs : List Shape) (os : List Level) → (t ≡ Either → ⊥) → behind_conj cs os t ≡ behind_expr (chain_of AnyOf cs) os t
behind_conj-other Either cs os h = absurd (h refl)
behind_conj-other _ cs os h = refl

-- one member more of an `&&` chain
pub and_more : (l m n : Lexer) (depth : ℕ) (us : List Shape) (t : Term) → l.token ≡ Both → later l ≡ ahead m → ReadsUnit depth m n t
    → (cs : List Shape) (os : List Level) → opened os ≡ depth → reads l (behind_unit (record { conjs = cs; units = us; bangs = 0 }) os) ≡ reads n
    (behind_unit (record { conjs = cs; units = us ++ shape t ∷ []; bangs = 0 }) os)
and_more l m n depth us t both next unit cs os e =
    let level : Level = record { conjs = cs; units = us; bangs = 0 } in
    ap (λ x. steps (read (later l)) l.at (next_behind level os x)) both ∙ ap (λ ts. read ts (unit_place level os)) next ∙ unit.same level os (zero-add (opened os) ∙ e)

pub and_end : (l : Lexer) (us : List Shape) (s : Shape) → (l.token ≡ Both → ⊥) → chain_of AllOf us ≡ s → (cs : List Shape) (os : List Level)
    → reads l (behind_unit (record { conjs = cs; units = us; bangs = 0 }) os) ≡ takes l (behind_conj (cs ++ s ∷ []) os l.token)
and_end l us s other whole cs os =
    ap (takes l) (next_behind-other l.token (record { conjs = cs; units = us; bangs = 0 }) os other) ∙ ap (λ x. takes l (behind_conj (cs ++ x ∷ []) os l.token)) whole

-- one member more of an `||` chain
pub or_more : (l m n : Lexer) (depth : ℕ) (cs : List Shape) (t : Term) → l.token ≡ Either → later l ≡ ahead m → ReadsConjunction depth m n t
    → (os : List Level) → opened os ≡ depth → takes l (behind_conj cs os l.token) ≡ takes n (behind_conj (cs ++ shape t ∷ []) os n.token)
or_more l m n depth cs t either next conj os e =
    ap (λ x. takes l (behind_conj cs os x)) either ∙ ap (λ ts. read ts (unit_place (behind_conjs cs) os)) next ∙ conj.same cs os e

pub or_end : (l : Lexer) (cs : List Shape) (s : Shape) → (l.token ≡ Either → ⊥) → chain_of AnyOf cs ≡ s → (os : List Level) → takes l (behind_conj cs os l.token) ≡ takes l (behind_expr s os l.token)
or_end l cs s other whole os =
    ap (takes l) (behind_conj-other l.token cs os other) ∙ ap (λ x. takes l (behind_expr x os l.token)) whole

next_unit-other : (t : Token) (l : Level) (os : List Level) → (t ≡ Bang → ⊥) → (t ≡ Open → ⊥) → (t ≡ TrueWord → ⊥) → (t ≡ FalseWord → ⊥)
    → (t ≡ NativeWord → ⊥) → next_unit l os t ≡ next_atom left alone l os t
next_unit-other Bang l os a b c d e = absurd (a refl)
next_unit-other Open l os a b c d e = absurd (b refl)
next_unit-other TrueWord l os a b c d e = absurd (c refl)
next_unit-other FalseWord l os a b c d e = absurd (d refl)
next_unit-other NativeWord l os a b c d e = absurd (e refl)
next_unit-other _ l os a b c d e = refl

-- a unit that begins with an atom is a comparison
pub comparison_read : (depth : ℕ) (l m : Lexer) (r : Result Term FilterError) → (l.token ≡ Bang → ⊥) → (l.token ≡ Open → ⊥) → (l.token ≡ TrueWord → ⊥)
    → (l.token ≡ FalseWord → ⊥) → (l.token ≡ NativeWord → ⊥) → Parses ReadsComparison RefusesComparison l m r → Parses (ReadsUnit depth) (RefusesUnit depth) l m r
comparison_read depth l m (Ok t) a b c d e h = record {
  ok = record { same = λ level os at. ap (takes l) (next_unit-other l.token level os a b c d e) ∙ h.ok.same level os; within = h.ok.within };
  err = tt;
  left = h.left;
}
comparison_read depth l m (Err x) a b c d e h = record {
  ok = tt;
  err = record { same = λ level os at memory. ap (takes l) (next_unit-other l.token level os a b c d e) ∙ h.err.same level os memory };
  left = h.left;
}
