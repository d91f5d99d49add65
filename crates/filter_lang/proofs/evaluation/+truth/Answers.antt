use Rattle.std.proofs.Common.{rules, ap, subst, sym, ◌∙◌}
use Rattle.filter_lang.specs.declared.term.Term.TheViews.{the_lemmas}
use Rattle.filter_lang.specs.Shape.{shapes, AreWithin}
use Rattle.filter_lang.specs.Meaning.{meaning, all_mean, any_means}
use Rattle.filter_lang.proofs.Rows.{shape_of_and, shape_of_or, within_of_and, within_of_or}
use Rattle.filter_lang.proofs.evaluation.+truth.Goals as goal

pub truth-all_true-requires : goal.truth-all_true-requires
truth-all_true-requires g t c =
    let within = subst (λ ts. AreWithin (shapes ts)) (sym c.deref-in-And.ensures.value) (within_of_and _ c.in-And.members c.in-And.is c.requires) in
    search (rules, the_lemmas)

pub truth-any_true-requires : goal.truth-any_true-requires
truth-any_true-requires g t c =
    let within = subst (λ ts. AreWithin (shapes ts)) (sym c.deref-in-Or.ensures.value) (within_of_or _ c.in-Or.members c.in-Or.is c.requires) in
    search (rules, the_lemmas)

pub truth-returns-in-And : goal.truth-returns-in-And
truth-returns-in-And g t c =
    c.all_true.ensures
    ∙ ap (λ ts. all_mean (shapes ts) c.args.facts.now) c.deref-in-And.ensures.value
    ∙ sym (ap (λ s. meaning s c.args.facts.now) (shape_of_and _ c.in-And.members c.in-And.is))

pub truth-returns-in-Or : goal.truth-returns-in-Or
truth-returns-in-Or g t c =
    c.any_true.ensures
    ∙ ap (λ ts. any_means (shapes ts) c.args.facts.now) c.deref-in-Or.ensures.value
    ∙ sym (ap (λ s. meaning s c.args.facts.now) (shape_of_or _ c.in-Or.members c.in-Or.is))
