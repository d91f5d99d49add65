use Rattle.std.proofs.Common.{◌∙◌, sym, ap, ◌++◌, take, append-nil}
use Rattle.std.proofs.lemmas.List.{take_all, drop_all}
use Rattle.report_text.specs.ReadWords.{first_word}
use Rattle.report_text.proofs.ReadLoops.{first_word-more, first_word-at_mark, first_word-none}
use Rattle.report_text.proofs.read.words.first_word.Goals as goal

pub loop-place-preserved : goal.loop-place-preserved
loop-place-preserved c =
    first_word-more c.args.text.now c.loop-place.place c.loop-place-test.true (sym c.is_mark.ensures ∙ c.if-is_mark.false) c.loop-place.invariant

pub returns-then-is_mark : goal.returns-then-is_mark
returns-then-is_mark c =
    let none = first_word-at_mark c.args.text.now c.loop-place.place c.loop-place-test.true (sym c.is_mark.ensures ∙ c.if-is_mark.true) in
    sym (c.loop-place.invariant ∙ ap (λ x. take c.loop-place.place c.args.text.now ++ x) none ∙ append-nil (take c.loop-place.place c.args.text.now))

pub returns : goal.returns
returns c =
    let text = c.args.text.now in
    let place = c.loop-place.place in
    let none = ap first_word (drop_all place text c.loop-place-test.false) ∙ first_word-none in
    sym (c.loop-place.invariant ∙ ap (λ x. take place text ++ x) none ∙ append-nil (take place text) ∙ take_all place text c.loop-place-test.false)
