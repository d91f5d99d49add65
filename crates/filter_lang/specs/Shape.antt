-- What an expression is, as plain data: the code's terms without their boxes. Two expressions are the
-- same where their shapes are.
use Rattle.std.specs.Prelude.{ℕ, ◌<◌, ◌≤◌, ◌^◌, List, [], ◌∷◌}
use Rattle.std.specs.List.{All}
use Rattle.filter_lang.specs.declared.term.Atom.{Atom}
use Rattle.filter_lang.specs.declared.term.Atom.TheVariants.{Fact, Number}
use Rattle.filter_lang.specs.declared.term.Op.{Op}
use Rattle.filter_lang.specs.declared.term.Sum.{Sum}
use Rattle.filter_lang.specs.declared.term.Term.{Term, Row_of-Term, end_of-Term, more_of-Term}
use Rattle.filter_lang.specs.declared.term.Term.TheVariants.{True, False, Native, Cmp, Not', And', Or'}

mutual
  pub data Shape : Type 0 where
    Always : Shape
    Never : Shape
    Ask : (which : ℕ) → Shape
    Compare : (left : Sum) → (op : Op) → (right : Sum) → Shape
    Negate : (inner : Shape) → Shape
    AllOf : (members : Shapes) → Shape
    AnyOf : (members : Shapes) → Shape

  pub data Shapes : Type 0 where
    none : Shapes
    more : (first : Shape) → (rest : Shapes) → Shapes

abbrev mutual
  -- the shape of a term
  pub shape : Term → Shape
  shape True = Always
  shape False = Never
  shape (Native which) = Ask which
  shape (Cmp left op right) = Compare left op right
  shape (Not' p inner) = Negate (shape inner)
  shape (And' m all) = AllOf (row_shapes all)
  shape (Or' m all) = AnyOf (row_shapes all)

  pub row_shapes : {m : _} → Row_of-Term m → Shapes
  row_shapes end_of-Term = none
  row_shapes (more_of-Term first rest) = more (shape first) (row_shapes rest)

-- the shapes of a list of terms
abbrev pub shapes : List Term → Shapes
shapes [] = none
shapes (t ∷ ts) = more (shape t) (shapes ts)

-- a fact has a place from 0 to 19, and a number 64 bits
abbrev pub AtomIsWithin : Atom → Type 0
AtomIsWithin (Fact place) = place ≤ 19
AtomIsWithin (Number n) = n < 2 ^ 64

abbrev pub SumIsWithin : Sum → Type 0
SumIsWithin s = AtomIsWithin s.first × All (λ step. AtomIsWithin step.1) s.rest

abbrev pub HasTwo : Shapes → Type 0
HasTwo none = ⊥
HasTwo (more s none) = ⊥
HasTwo (more s (more t rest)) = Unit {0}

abbrev mutual
  -- what each expression keeps at every level: the places of its facts, the numbers of its native
  -- filters, and two or more members in each chain
  pub IsWithin : Shape → Type 0
  IsWithin Always = Unit {0}
  IsWithin Never = Unit {0}
  IsWithin (Ask which) = which ≤ 5
  IsWithin (Compare left op right) = SumIsWithin left × SumIsWithin right
  IsWithin (Negate inner) = IsWithin inner
  IsWithin (AllOf members) = HasTwo members × AreWithin members
  IsWithin (AnyOf members) = HasTwo members × AreWithin members

  pub AreWithin : Shapes → Type 0
  AreWithin none = Unit {0}
  AreWithin (more first rest) = IsWithin first × AreWithin rest
