use Rattle.std.proofs.Common.{IfSome, subst}
use Rattle.app_api.specs.Names.{IsLabel}
use Rattle.callback_log.specs.Walk.{entry_lent}
use Rattle.report_text.proofs.ShortLines.{label_long, whole_line}
use Rattle.report_text.proofs.short.ShortLine.put_callback.Goals as goal

pub put-requires-clause-long : goal.put-requires-clause-long
put-requires-clause-long c =
    let e = entry_lent c.args.callback.now in
    let label : IsLabel c.in-Some.name.now c.in-Some.len e.event = subst (λ found. IfSome found (λ label. IsLabel label.0.now label.1 e.event)) c.in-Some.is c.event_label.ensures in
    label_long _ _ _ label

pub returns : goal.returns
returns c said =
    let e = entry_lent c.args.callback.now in
    let label : IsLabel c.in-Some.name.now c.in-Some.len e.event = subst (λ found. IfSome found (λ label. IsLabel label.0.now label.1 e.event)) c.in-Some.is c.event_label.ensures in
    whole_line e _ _ _ label (c.saw_something.ensures c.if-saw_something.false) c.put.ensures
