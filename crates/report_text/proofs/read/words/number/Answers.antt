use Rattle.std.proofs.Common.{◌∙◌, ◌+◌, ◌*◌, ◌%◌, ◌^◌, sym, ap, drop}
use Rattle.std.proofs.lemmas.List.{drop_all}
use Rattle.report_text.specs.ReadWords.{number_from}
use Rattle.report_text.proofs.ReadLoops.{number-plain, number-at_mark, number-none}
use Rattle.report_text.proofs.read.words.number.Goals as goal

pub loop-byte-preserved : goal.loop-byte-preserved
loop-byte-preserved c =
    let text = c.args.text.now in
    let n = c.loop-byte.number in
    c.loop-byte.invariant ∙ number-plain c.args.radix n text c.loop-byte.byte-index c.loop-byte-test.true (sym c.is_mark.ensures ∙ c.if-is_mark.false)
    ∙ ap (λ d. number_from c.args.radix ((n * c.args.radix % 2 ^ 64 + d) % 2 ^ 64) (drop (c.loop-byte.byte-index + 1) text)) (sym c.digit.ensures)

pub returns-then-is_mark : goal.returns-then-is_mark
returns-then-is_mark c =
    sym (c.loop-byte.invariant
    ∙ number-at_mark c.args.radix c.loop-byte.number c.args.text.now c.loop-byte.byte-index c.loop-byte-test.true (sym c.is_mark.ensures ∙ c.if-is_mark.true))

pub returns : goal.returns
returns c =
    sym (c.loop-byte.invariant
    ∙ ap (number_from c.args.radix c.loop-byte.number) (drop_all c.loop-byte.byte-index c.args.text.now c.loop-byte-test.false)
    ∙ number-none c.args.radix c.loop-byte.number)
