use Rattle.std.proofs.Common.{◌≡◌, ◌+◌, [], ◌∷◌, ◌++◌, take, arith, ap, sym, ◌∙◌}
use Rattle.std.proofs.lemmas.List.{take_more}
use Rattle.filter_lang.specs.Shape.{shapes}
use Rattle.filter_lang.proofs.Rows.{shape-And, shape-Or, shape_of_and, shape_of_or, shapes-push}
use Rattle.filter_lang.proofs.expr.+copied.Goals as goal

pub copy_term-returns-in_ok-items-in-And : goal.copy_term-returns-in_ok-items-in-And
copy_term-returns-in_ok-items-in-And t c =
    shape-And (record { items = c.in_ok-items-in-And.items })
    ∙ cc (shape_of_and _ c.in-And.members c.in-And.is, c.deref-in-And.ensures.value, c.in_ok-items-in-And.ensures)

pub copy_term-returns-in_ok-items-in-Or : goal.copy_term-returns-in_ok-items-in-Or
copy_term-returns-in_ok-items-in-Or t c =
    shape-Or (record { items = c.in_ok-items-in-Or.items })
    ∙ cc (shape_of_or _ c.in-Or.members c.in-Or.is, c.deref-in-Or.ensures.value, c.in_ok-items-in-Or.ensures)

pub copy_terms-loop-term-preserved : goal.copy_terms-loop-term-preserved
copy_terms-loop-term-preserved t c =
    let l = c.loop-term in
    let xs = c.args.terms.now in
    let x = c.term-item.result in
    let turn : take (l.term-index + 1) xs ≡ take l.term-index xs ++ x ∷ [] =
    take_more xs l.term-index x (omega arith) ∙ ap (λ y. take l.term-index xs ++ y ∷ []) (sym c.term-item.is) in
    ap shapes c.in_ok-push.ensures.items ∙ shapes-push _ _ c.in_ok-copy.copy x l.invariant c.in_ok-copy.ensures ∙ ap shapes (sym turn)
