-- Only for proofs. A code of shapes, by which the logic stores them: each shape as a list of signs, in prefix order.
use Rattle.std.specs.Prelude.{◌≡◌, refl, ℕ, zero, suc, List, [], ◌∷◌, ◌⊎◌}
use Rattle.std.proofs.Common.{ap, ◌∙◌, inl, inr}
use Rattle.std.specs.Coded.{Coded, code_by, coded×, coded⊎, coded_list, coded_ℕ}
use Rattle.filter_lang.specs.declared.term.Op.{Op}
use Rattle.filter_lang.specs.declared.term.Sum.{Sum}
use Rattle.filter_lang.specs.contracts.term.Op as op_row
use Rattle.filter_lang.specs.contracts.term.Sum as sum_row
use Rattle.filter_lang.specs.Shape.{Shape, Always, Never, Ask, Compare, Negate, AllOf, AnyOf, Shapes, none, more}

-- the head of a shape or of a list of shapes
pub data Sign : Type 0 where
  always : Sign
  never : Sign
  negate : Sign
  all_of : Sign
  any_of : Sign
  end : Sign
  next : Sign
  ask : (which : ℕ) → Sign
  compare : (left : Sum) → (op : Op) → (right : Sum) → Sign

abbrev pub Stored : Type 0
Stored = ℕ ⊎ (Sum × (Op × Sum))

abbrev pub stored : Sign → Stored
stored always = inl 0
stored never = inl 1
stored negate = inl 2
stored all_of = inl 3
stored any_of = inl 4
stored end = inl 5
stored next = inl 6
stored (ask n) = inl (suc (suc (suc (suc (suc (suc (suc n)))))))
stored (compare l o r) = inr (l, (o, r))

abbrev pub numbered : ℕ → Sign
numbered zero = always
numbered (suc zero) = never
numbered (suc (suc zero)) = negate
numbered (suc (suc (suc zero))) = all_of
numbered (suc (suc (suc (suc zero)))) = any_of
numbered (suc (suc (suc (suc (suc zero))))) = end
numbered (suc (suc (suc (suc (suc (suc zero)))))) = next
numbered (suc (suc (suc (suc (suc (suc (suc n))))))) = ask n

abbrev pub restored : Stored → Sign
restored (inl n) = numbered n
restored (inr c) = compare c.0 c.1.0 c.1.1

pub restored-stored : (s : Sign) → restored (stored s) ≡ s
restored-stored always = refl
restored-stored never = refl
restored-stored negate = refl
restored-stored all_of = refl
restored-stored any_of = refl
restored-stored end = refl
restored-stored next = refl
restored-stored (ask n) = refl
restored-stored (compare l o r) = refl

abbrev pub sign_code : Coded Sign
sign_code = code_by Stored (coded⊎ coded_ℕ (coded× sum_row.the_row.coded (coded× op_row.the_row.coded sum_row.the_row.coded))) stored restored restored-stored

abbrev mutual
  -- the signs of a shape, before others
  pub signs : Shape → List Sign → List Sign
  signs Always rest = always ∷ rest
  signs Never rest = never ∷ rest
  signs (Ask which) rest = ask which ∷ rest
  signs (Compare l o r) rest = compare l o r ∷ rest
  signs (Negate s) rest = negate ∷ signs s rest
  signs (AllOf ss) rest = all_of ∷ all_signs ss rest
  signs (AnyOf ss) rest = any_of ∷ all_signs ss rest

  pub all_signs : Shapes → List Sign → List Sign
  all_signs none rest = end ∷ rest
  all_signs (more s ss) rest = next ∷ signs s (all_signs ss rest)

abbrev pub first_of : Shapes → Shape
first_of none = Always
first_of (more s ss) = s

-- one sign more before what the others make; a shape stands as a list of one
abbrev pub with_sign : Sign → List Shapes → List Shapes
with_sign always made = more Always none ∷ made
with_sign never made = more Never none ∷ made
with_sign (ask which) made = more (Ask which) none ∷ made
with_sign (compare l o r) made = more (Compare l o r) none ∷ made
with_sign end made = none ∷ made
with_sign negate (s ∷ made) = more (Negate (first_of s)) none ∷ made
with_sign all_of (ss ∷ made) = more (AllOf ss) none ∷ made
with_sign any_of (ss ∷ made) = more (AnyOf ss) none ∷ made
with_sign next (s ∷ ss ∷ made) = more (first_of s) ss ∷ made
with_sign _ _ = []

abbrev pub made_of : List Sign → List Shapes
made_of [] = []
made_of (x ∷ xs) = with_sign x (made_of xs)

mutual
  made_of-signs : (s : Shape) (rest : List Sign) → made_of (signs s rest) ≡ more s none ∷ made_of rest
  made_of-signs Always rest = refl
  made_of-signs Never rest = refl
  made_of-signs (Ask which) rest = refl
  made_of-signs (Compare l o r) rest = refl
  made_of-signs (Negate s) rest = ap (with_sign negate) (made_of-signs s rest)
  made_of-signs (AllOf ss) rest = ap (with_sign all_of) (made_of-all_signs ss rest)
  made_of-signs (AnyOf ss) rest = ap (with_sign any_of) (made_of-all_signs ss rest)

  made_of-all_signs : (ss : Shapes) (rest : List Sign) → made_of (all_signs ss rest) ≡ ss ∷ made_of rest
  made_of-all_signs none rest = refl
  made_of-all_signs (more s ss) rest =
      ap (with_sign next) (made_of-signs s (all_signs ss rest) ∙ ap (λ x. more s none ∷ x) (made_of-all_signs ss rest))

abbrev pub one_of : List Shapes → Shape
one_of [] = Always
one_of (s ∷ made) = first_of s

pub one_of-signs : (s : Shape) → one_of (made_of (signs s [])) ≡ s
one_of-signs s = ap one_of (made_of-signs s [])

abbrev pub shape_code : Coded Shape
shape_code = code_by (List Sign) (coded_list sign_code) (λ s. signs s []) (λ xs. one_of (made_of xs)) one_of-signs
