-- The shape of a chain, by the list of its members.
use Rattle.std.proofs.Common.{◌≡◌, List, [], ◌∷◌, ◌++◌, ap, ◌∙◌, refl, subst}
use Rattle.filter_lang.specs.declared.term.Term.{Term, Row_of-Term, end_of-Term, more_of-Term, items-the_row-Term, items_hidden-the_row-Term-0}
use Rattle.filter_lang.specs.declared.term.Term.TheVariants.{And, Or, And'}
use Rattle.filter_lang.specs.declared.term.TermList.{TermList}
use Rattle.filter_lang.specs.Shape.{shape, shapes, row_shapes, AllOf, AnyOf, more, none, IsWithin, AreWithin}

row_shapes-items : (m : _) (row : Row_of-Term m) → row_shapes row ≡ shapes (items-the_row-Term m row)
row_shapes-items m end_of-Term = refl
row_shapes-items m (more_of-Term first rest) = ap (more (shape first)) (row_shapes-items _ rest)

abbrev row_of : Term → (n : _) × Row_of-Term n
row_of (And' m row) = (_, row)
row_of _ = (_, end_of-Term)

pub shape-And : (l : TermList) → shape (And l) ≡ AllOf (shapes l.items.items)
shape-And l =
    let row = row_of (And l) in
    ap AllOf (row_shapes-items row.0 row.1 ∙ ap shapes (items_hidden-the_row-Term-0 l.items))

pub shape-Or : (l : TermList) → shape (Or l) ≡ AnyOf (shapes l.items.items)
shape-Or l =
    let row = row_of (And l) in
    ap AnyOf (row_shapes-items row.0 row.1 ∙ ap shapes (items_hidden-the_row-Term-0 l.items))

-- the same of a term that is such a chain
pub shape_of_and : (t : Term) (l : TermList) → t ≡ And l → shape t ≡ AllOf (shapes l.items.items)
shape_of_and t l is = ap shape is ∙ shape-And l

pub shape_of_or : (t : Term) (l : TermList) → t ≡ Or l → shape t ≡ AnyOf (shapes l.items.items)
shape_of_or t l is = ap shape is ∙ shape-Or l

pub within_of_and : (t : Term) (l : TermList) → t ≡ And l → IsWithin (shape t) → AreWithin (shapes l.items.items)
within_of_and t l is within = (subst IsWithin (shape_of_and t l is) within).1

pub within_of_or : (t : Term) (l : TermList) → t ≡ Or l → IsWithin (shape t) → AreWithin (shapes l.items.items)
within_of_or t l is within = (subst IsWithin (shape_of_or t l is) within).1

pub shapes-push : (xs ys : List Term) (x y : Term) → shapes xs ≡ shapes ys → shape x ≡ shape y → shapes (xs ++ x ∷ []) ≡ shapes (ys ++ y ∷ [])
shapes-push [] [] x y same e = ap (λ s. more s none) e
shapes-push [] (b ∷ ys) x y same e = absurd (cc)
shapes-push (a ∷ xs) [] x y same e = absurd (cc)
shapes-push (a ∷ xs) (b ∷ ys) x y same e =
    let head : shape a ≡ shape b = cc in
    let tail : shapes xs ≡ shapes ys = cc in
    let later = shapes-push xs ys x y tail e in
    cc
