use Rattle.std.proofs.Common.{◌∙◌, ◌≤◌, ◌-◌, ◌+◌, sym, ap, drop, length, length-drop, arith}
use Rattle.std.proofs.lemmas.List.{take_all, drop_all}
use Rattle.report_text.specs.ReadWords.{after_word}
use Rattle.report_text.proofs.ReadLoops.{after_word-plain, after_word-at_mark, after_word-none}
use Rattle.report_text.proofs.read.words.after_word.Goals as goal

pub loop-place-preserved : goal.loop-place-preserved
loop-place-preserved c =
    c.loop-place.invariant ∙ after_word-plain c.args.text.now c.loop-place.place c.loop-place-test.true (sym c.is_mark.ensures ∙ c.if-is_mark.false)

pub returns-then-is_mark : goal.returns-then-is_mark
returns-then-is_mark c =
    let text = c.args.text.now in
    let place = c.loop-place.place in
    let few : length (drop (place + 1) text) ≤ length text - (place + 1) = omega (arith, length-drop (place + 1) text) in
    take_all (length text - (place + 1)) (drop (place + 1) text) few
    ∙ sym (c.loop-place.invariant ∙ after_word-at_mark text place c.loop-place-test.true (sym c.is_mark.ensures ∙ c.if-is_mark.true))

pub returns : goal.returns
returns c =
    sym (c.loop-place.invariant ∙ ap after_word (drop_all c.loop-place.place c.args.text.now c.loop-place-test.false) ∙ after_word-none)
