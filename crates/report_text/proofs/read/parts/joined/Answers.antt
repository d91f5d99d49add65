use Rattle.std.proofs.Common.{◌∙◌, ◌+◌, ◌*◌, ◌%◌, ◌^◌, sym, ap, drop}
use Rattle.std.proofs.lemmas.List.{drop_all}
use Rattle.report_text.specs.ReadWords.{joined}
use Rattle.report_text.proofs.ReadLoops.{joined-more, joined-none}
use Rattle.report_text.proofs.read.parts.joined.Goals as goal

pub loop-group-preserved : goal.loop-group-preserved
loop-group-preserved c =
    c.loop-group.invariant ∙ joined-more c.loop-group.addr c.args.groups.now c.loop-group.group-index c.loop-group-test.true
    ∙ ap (λ g. joined (c.loop-group.addr % 2 ^ 112 * 2 ^ 16 + g) (drop (c.loop-group.group-index + 1) c.args.groups.now)) (sym c.from.ensures)

pub returns : goal.returns
returns c =
    sym (c.loop-group.invariant ∙ ap (joined c.loop-group.addr) (drop_all c.loop-group.group-index c.args.groups.now c.loop-group-test.false)
    ∙ joined-none c.loop-group.addr)
