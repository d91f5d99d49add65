use Rattle.std.proofs.Common.{not, sym, ap, ◌∙◌}
use Rattle.connection_core.proofs.Changing.{so-true, so-false}
use Rattle.connection_core.proofs.changes.is_so.Goals as goal

pub returns-then-change : goal.returns-then-change
returns-then-change c = c.is_on.ensures ∙ sym (so-true _ c.args.change.on c.if-change.true)

pub returns-else-change : goal.returns-else-change
returns-else-change c = ap not c.is_on-else-change.ensures ∙ sym (so-false _ c.args.change.on c.if-change.false)
