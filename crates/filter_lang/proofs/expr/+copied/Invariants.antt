use Rattle.std.proofs.Common.{◌≡◌, take}
use Rattle.filter_lang.specs.Shape.{shapes}
use Rattle.filter_lang.proofs.expr.+copied.Given as goal

abbrev pub invariant-copy_terms-loop-term : goal.invariant-copy_terms-loop-term
invariant-copy_terms-loop-term l = shapes l.copies.items ≡ shapes (take l.term-index l.terms)
