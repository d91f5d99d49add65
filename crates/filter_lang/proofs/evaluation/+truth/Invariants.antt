use Rattle.std.proofs.Common.{◌≡◌, drop}
use Rattle.filter_lang.specs.Meaning.{all_mean, any_means}
use Rattle.filter_lang.specs.Shape.{shapes, AreWithin}
use Rattle.filter_lang.proofs.evaluation.+truth.Given as goal

abbrev pub invariant-all_true-loop-term : goal.invariant-all_true-loop-term
invariant-all_true-loop-term g l = record {
  within : AreWithin (shapes (drop l.term-index l.terms));
  same : all_mean (shapes (drop l.term-index l.terms)) l.facts ≡ all_mean (shapes l.terms) l.facts;
}

abbrev pub invariant-any_true-loop-term : goal.invariant-any_true-loop-term
invariant-any_true-loop-term g l = record {
  within : AreWithin (shapes (drop l.term-index l.terms));
  same : any_means (shapes (drop l.term-index l.terms)) l.facts ≡ any_means (shapes l.terms) l.facts;
}
